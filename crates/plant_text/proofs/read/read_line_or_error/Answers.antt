use Rattle.plant_text.proofs.LineMeaning.{problem_reported, says_value}
use Rattle.plant_text.proofs.read.read_line_or_error.Goals as goal

pub returns-in-Ok-clause-reads : goal.returns-in-Ok-clause-reads
returns-in-Ok-clause-reads c = rw (says_value c.args.bytes.now _ c.in-Ok.ensures.value) c.value_says.ensures.reads

pub returns-in-Err-clause-reads : goal.returns-in-Err-clause-reads
returns-in-Err-clause-reads c = problem_reported _ c.args.bytes.now c.in-Err.ensures.problem
