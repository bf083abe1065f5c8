use Rattle.std.proofs.Common.{rules}
use Rattle.std.proofs.lemmas.List.Edits.{map_over_more}
use Rattle.plant_http_requests.specs.AnswerCounts.{with_one_more}
use Rattle.plant_http_requests.proofs.figures.Figures.count_answer.Goals as goal

pub loop-counted-preserved : goal.loop-counted-preserved
loop-counted-preserved c = search (rules, map_over_more (with_one_more c.args.status))
