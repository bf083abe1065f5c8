use Rattle.plant_text.specs.{line_of}
use Rattle.plant_http_requests.proofs.InputDeterminesTask.{command_reads}
use Rattle.plant_http_requests.proofs.bodies.command_task.Goals as goal

pub returns : goal.returns
returns c = rw c.command_of.ensures (command_reads _ (line_of c.args.body.now) c.read_line.ensures.ok c.read_line.ensures.bad_form)
