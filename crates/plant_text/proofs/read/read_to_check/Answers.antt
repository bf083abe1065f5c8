use Rattle.plant_text.specs.{value_in}
use Rattle.plant_text.proofs.LineMeaning.{checks_reading, checks_value}
use Rattle.plant_text.proofs.read.read_to_check.Goals as goal

pub returns-in-Ok : goal.returns-in-Ok
returns-in-Ok c = rw (checks_value c.args.bytes.now _ c.in-Ok.ensures.value) c.to_check_of.ensures.reads

pub returns-in-Err : goal.returns-in-Err
returns-in-Err c = rw (checks_reading c.args.bytes.now) (c.without_value.ensures (value_in c.args.bytes.now) c.in-Err.ensures.problem)
