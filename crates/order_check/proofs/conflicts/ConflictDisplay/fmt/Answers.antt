use Rattle.order_check.proofs.conflicts.ConflictDisplay.fmt.Goals as goal

pub returns-clause-writes : goal.returns-clause-writes
returns-clause-writes g c = c.write.ensures.writes
