use Rattle.serde_json.specs.View.{view}
use Rattle.plant_json_in.proofs.FieldsAreTyped.{fields_valid, typed_ok, reported_err}
use Rattle.plant_json_in.proofs.fields.fields_of.Goals as goal

pub returns-clause-typed : goal.returns-clause-typed
returns-clause-typed c = rw c.each_field.ensures (typed_ok c.args.members.now _ (fields_valid c.args.members.now (view c.args.value.now)))

pub returns-clause-reported : goal.returns-clause-reported
returns-clause-reported c = rw c.each_field.ensures (reported_err c.args.members.now _ (fields_valid c.args.members.now (view c.args.value.now)))
