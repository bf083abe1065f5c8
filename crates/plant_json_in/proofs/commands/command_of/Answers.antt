use Rattle.serde_json.specs.View.{view}
use Rattle.plant_json_in.proofs.StepsAreTyped.{command_reported}
use Rattle.plant_json_in.proofs.commands.command_of.Goals as goal

pub returns-clause-reported : goal.returns-clause-reported
returns-clause-reported c = command_reported (view c.args.value.now) c.read_command.result c.read_command.ensures
