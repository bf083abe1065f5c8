use Rattle.file_reports.specs.{held_text}
use Rattle.file_reports.proofs.SentencesConcatenate.{held_behind}
use Rattle.file_reports.proofs.outcome.write_sentences.Goals as goal

pub returns : goal.returns
returns g c = held_behind c.write_held.result c.args.outcome.now.open_error _ _ _ (held_text c.args.outcome.now.file_report) c.in_ok-write_opening.ensures c.write_held.ensures
