use Rattle.plant_text_checks.specs.{check_text}
use Rattle.plant_text.proofs.turns.write_check.Goals as goal

pub returns-in-Ok-clause-answered : goal.returns-in-Ok-clause-answered
returns-in-Ok-clause-answered g c = rw c.in-Ok.is (c.write_made.ensures (check_text c.in-Ok.answer) c.check_text.ensures)
