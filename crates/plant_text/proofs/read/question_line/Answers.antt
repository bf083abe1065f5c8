use Rattle.serde_json.specs.View.{view}
use Rattle.plant_text.proofs.LineMeaning.{asked_reported}
use Rattle.plant_text.proofs.read.question_line.Goals as goal

pub returns-clause-reported : goal.returns-clause-reported
returns-clause-reported c = asked_reported (view c.args.value.now) c.read_question.result c.read_question.ensures
