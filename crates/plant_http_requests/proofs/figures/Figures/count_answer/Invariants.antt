use Rattle.std.proofs.Common.{◌≡◌, ◌++◌, map, take, drop}
use Rattle.plant_http_requests.specs.AnswerCounts.{with_one_more}
use Rattle.plant_http_requests.proofs.figures.Figures.count_answer.Given as goal

abbrev pub invariant-loop-counted : goal.invariant-loop-counted
invariant-loop-counted l = l.counted-items ≡ map (with_one_more l.status) (take l.counted-index l.fn.self.answers) ++ drop l.counted-index l.fn.self.answers
