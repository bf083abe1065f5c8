use Rattle.serde_json.specs.View.{view}
use Rattle.plant_json_in.specs.{checked_in}
use Rattle.plant_json_in.proofs.ChecksAreTyped.{made_has_reason, value_has_reason}
use Rattle.plant_json_in.proofs.checks.to_check_of.Goals as goal

pub returns-clause-reason : goal.returns-clause-reason
returns-clause-reason c = made_has_reason (checked_in (view c.args.value.now)) c.checked_as.result c.checked_as.ensures (value_has_reason (view c.args.value.now))
