use Rattle.plant_http_requests.proofs.InputDeterminesTask.{one_task}
use Rattle.plant_http_requests.proofs.law.task_law.Goals as goal

pub returns : goal.returns
returns c = one_task
