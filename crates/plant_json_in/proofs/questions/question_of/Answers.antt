use Rattle.serde_json.specs.View.{view}
use Rattle.plant_json_in.proofs.QuestionsAreReported.{question_reported}
use Rattle.plant_json_in.proofs.questions.question_of.Goals as goal

pub returns-clause-reported : goal.returns-clause-reported
returns-clause-reported c = rw c.question_in.ensures (question_reported c.args.kind (view c.args.value.now))
