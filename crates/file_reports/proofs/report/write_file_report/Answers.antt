use Rattle.std.proofs.Common.{◌++◌}
use Rattle.file_reports.specs.{desk_text, findings_text, barred_text}
use Rattle.file_reports.proofs.SentencesConcatenate.{reported_after}
use Rattle.file_reports.proofs.report.write_file_report.Goals as goal

pub returns-in_ok-write_summary-in-Desk : goal.returns-in_ok-write_summary-in-Desk
returns-in_ok-write_summary-in-Desk g c =
    rw c.in-Desk.is (reported_after c.write_wrong.result _ _ _ (desk_text c.in-Desk.summary) (findings_text c.in-Desk.findings ++ barred_text c.in-Desk.barred) c.in_ok-write_summary-in-Desk.ensures c.write_wrong.ensures)
