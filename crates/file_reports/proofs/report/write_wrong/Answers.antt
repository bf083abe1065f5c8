use Rattle.file_reports.specs.{findings_text, barred_text}
use Rattle.file_reports.proofs.SentencesConcatenate.{reported_after}
use Rattle.file_reports.proofs.report.write_wrong.Goals as goal

pub returns : goal.returns
returns g c = reported_after c.write_barred.result _ _ _ (findings_text c.args.findings.now) (barred_text c.args.barred) c.in_ok-write_findings.ensures c.write_barred.ensures
