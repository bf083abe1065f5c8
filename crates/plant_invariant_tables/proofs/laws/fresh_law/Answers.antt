use Rattle.plant_invariant_tables.proofs.AddedRowsAreFresh.{fresh}
use Rattle.plant_invariant_tables.proofs.RowsInKeyOrder.{keyed}
use Rattle.plant_invariant_tables.proofs.laws.fresh_law.Goals as goal

pub returns : goal.returns
returns c = record { keyed = keyed; fresh = fresh }
