use Rattle.plant_text_checks.proofs.command_errors.CommandErrorDisplay.fmt.Goals as goal

pub returns-in-SamePart-clause-writes : goal.returns-in-SamePart-clause-writes
returns-in-SamePart-clause-writes g c = rw c.in-SamePart.is c.write-in-SamePart.ensures.writes

pub returns-in-Lines-clause-writes : goal.returns-in-Lines-clause-writes
returns-in-Lines-clause-writes g c = rw c.in-Lines.is c.write-in-Lines.ensures.writes

pub returns-in-SameLine-clause-writes : goal.returns-in-SameLine-clause-writes
returns-in-SameLine-clause-writes g c = rw c.in-SameLine.is c.write-in-SameLine.ensures.writes
