use Rattle.plant_http_requests.proofs.ExecutedCommands.{executed_is_its_senders}
use Rattle.plant_http_requests.proofs.law.sender_law.Goals as goal

pub returns : goal.returns
returns c = executed_is_its_senders
