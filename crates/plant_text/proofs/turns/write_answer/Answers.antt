use Rattle.plant_text_answers.specs.{text_of_answer}
use Rattle.plant_text.proofs.turns.write_answer.Goals as goal

pub returns-in-Ok-clause-answered : goal.returns-in-Ok-clause-answered
returns-in-Ok-clause-answered g c =
    rw c.in-Ok.is (rw c.is_unknown.ensures at (c.write_made.ensures (text_of_answer c.in-Ok.answer) c.answer_text.ensures))
