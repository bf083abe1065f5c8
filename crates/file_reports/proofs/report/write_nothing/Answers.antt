use Rattle.std.proofs.Common.{codes}
use Rattle.file_reports.specs.{index_text}
use Rattle.plant_text.specs.{with_lf}
use Rattle.file_reports.proofs.SentencesConcatenate.{reported_after}
use Rattle.file_reports.proofs.report.write_nothing.Goals as goal

pub returns-in_ok-write_report-in-Some : goal.returns-in_ok-write_report-in-Some
returns-in_ok-write_report-in-Some g c =
    rw c.in-Some.is (reported_after c.write_shown.result _ _ _ (with_lf (codes "It holds no desk, and none can be made in it.")) (with_lf (index_text c.in-Some.index)) c.in_ok-write_report-in-Some.ensures c.write_shown.ensures)
