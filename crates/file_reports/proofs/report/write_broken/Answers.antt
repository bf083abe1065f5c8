use Rattle.plant_check.specs.{fault_text}
use Rattle.file_reports.specs.{rule_line}
use Rattle.plant_text.specs.{with_lf}
use Rattle.file_reports.proofs.SentencesConcatenate.{reported_after}
use Rattle.file_reports.proofs.report.write_broken.Goals as goal

pub returns-in-Some : goal.returns-in-Some
returns-in-Some g c = rw c.in-Some.is (reported_after c.write_shown-in-Some.result _ _ _ (with_lf (rule_line c.args.rule)) (with_lf (fault_text c.in-Some.row)) c.in_ok-write_shown.ensures c.write_shown-in-Some.ensures)
