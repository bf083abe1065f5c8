use Rattle.file_reports.proofs.SentencesConcatenate.{opens_alone}
use Rattle.file_reports.proofs.outcome.write_opens.Goals as goal

pub returns : goal.returns
returns g c = opens_alone c.write_report.result _ _ c.write_report.ensures
