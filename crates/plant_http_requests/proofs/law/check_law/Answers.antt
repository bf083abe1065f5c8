use Rattle.plant_http_requests.proofs.JudgedCommands.{checked_as_executed}
use Rattle.plant_http_requests.proofs.law.check_law.Goals as goal

pub returns : goal.returns
returns c = checked_as_executed
