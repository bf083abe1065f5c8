use Rattle.file_reports.proofs.SentencesConcatenate.{shown_reported}
use Rattle.file_reports.proofs.report.write_shown.Goals as goal

pub returns-in-Ok : goal.returns-in-Ok
returns-in-Ok g c = shown_reported c.write_report.result (g.T.Display.output c.args.shown.now) _ _ _ _ c.in-Ok.ensures.ok c.as_bytes.ensures.value c.write_report.ensures
