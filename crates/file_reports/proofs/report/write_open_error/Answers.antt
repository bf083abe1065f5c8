use Rattle.file_reports.proofs.SentencesConcatenate.{cause_behind}
use Rattle.file_reports.proofs.report.write_open_error.Goals as goal

pub returns : goal.returns
returns g c = cause_behind c.write_shown.result c.args.open_error _ _ _ c.in_ok-write_error.ensures c.write_shown.ensures
