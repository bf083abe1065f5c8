use Rattle.serde_json.specs.View.{view}
use Rattle.plant_json_in.proofs.ChecksAreTyped.{check_reported, check_has_reason}
use Rattle.plant_json_in.proofs.checks.check_of.Goals as goal

pub returns-clause-reported : goal.returns-clause-reported
returns-clause-reported c = check_reported (view c.args.value.now) c.read_check.result c.read_check.ensures

pub returns-clause-reason : goal.returns-clause-reason
returns-clause-reason c = check_has_reason (view c.args.value.now) c.read_check.result c.read_check.ensures
