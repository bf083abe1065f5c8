use Rattle.plant_http_requests.proofs.ExecutedCommands.{executed_has_its_condition}
use Rattle.plant_http_requests.proofs.law.condition_law.Goals as goal

pub returns : goal.returns
returns c = executed_has_its_condition
