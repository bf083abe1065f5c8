use Rattle.file_reports.proofs.report.BrokenRuleDisplay.fmt.Goals as goal

pub returns-clause-writes : goal.returns-clause-writes
returns-clause-writes g c = rw (← c.number-number.ensures, ← c.rule_text-text.ensures) c.write.ensures.writes
