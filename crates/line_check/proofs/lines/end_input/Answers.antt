use Rattle.line_check.specs.{verdict_of}
use Rattle.line_check.proofs.ReportEndsEarly.{early_behind_line}
use Rattle.line_check.proofs.lines.end_input.Goals as goal

pub returns-in-Ok-clause-early : goal.returns-in-Ok-clause-early
returns-in-Ok-clause-early g c =
    early_behind_line c.write_end.result c.args.tally c.in-Ok.now (verdict_of c.args.held.now) _ _ _ c.in-Ok.ensures.reported c.write_end.ensures.early
