use Rattle.plant_http_requests.proofs.InputDeterminesTask.{fault_reads}
use Rattle.plant_http_requests.proofs.bodies.file_task.Goals as goal

pub returns-in-Err : goal.returns-in-Err
returns-in-Err c = rw c.fault_task.ensures (fault_reads _ _ c.args.import_metadata _ c.in-Err.ensures)
