use Rattle.plant_http_requests.proofs.ExecutedCommands.{executed_has_its_reference}
use Rattle.plant_http_requests.proofs.law.reference_law.Goals as goal

pub returns : goal.returns
returns c = executed_has_its_reference
