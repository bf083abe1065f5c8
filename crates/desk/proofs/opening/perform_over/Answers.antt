use Rattle.std.proofs.Common.{inr}
use Rattle.desk.proofs.opening.perform_over.Goals as goal

pub returns-in-Err : goal.returns-in-Err
returns-in-Err g c = inr (record {
  error = c.in-Err.refused.error;
  unopened = c.in-Err.ensures.unopened;
  memory = c.write_opening.ensures.memory;
  store = c.write_opening.ensures.store;
})
