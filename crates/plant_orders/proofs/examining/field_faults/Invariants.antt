use Rattle.std.proofs.Common.{◌≡◌, take}
use Rattle.csv.specs.Records.{fields_of}
use Rattle.plant_orders.specs.{field_faults}
use Rattle.plant_orders.proofs.examining.field_faults.Given as goal

-- the faults of the fields so far
abbrev pub invariant-loop-kind : goal.invariant-loop-kind
invariant-loop-kind l = l.faults.items ≡ field_faults l.number (fields_of l.row) (take l.kind-index l.kinds)
