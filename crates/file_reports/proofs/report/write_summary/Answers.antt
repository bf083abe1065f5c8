use Rattle.file_reports.specs.{summary_text, counts_text}
use Rattle.plant_text.specs.{with_lf}
use Rattle.file_reports.proofs.SentencesConcatenate.{reported_after}
use Rattle.file_reports.proofs.report.write_summary.Goals as goal

pub returns : goal.returns
returns g c = reported_after c.write_shown-2.result _ _ _ (with_lf (summary_text c.args.summary.now)) (with_lf (counts_text c.args.summary.now)) c.in_ok-write_shown.ensures c.write_shown-2.ensures
