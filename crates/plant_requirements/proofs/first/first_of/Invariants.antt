use Rattle.std.proofs.Common.{◌≡◌, Option, drop}
use Rattle.std.specs.Fn.{FnReturnsAt}
use Rattle.plant_requirements.specs.{RowFault, first_reported}
use Rattle.plant_requirements.proofs.first.first_of.Given as goal

-- the rows so far have no fault: the first is one of those that are left
abbrev pub invariant-loop-row : goal.invariant-loop-row
invariant-loop-row g l =
    (fault_of : _ → Option RowFault) → ((x : _) (r : Option RowFault) → FnReturnsAt g.F.Fn l.fault x r → r ≡ fault_of x)
    → first_reported fault_of (drop l.row-index l.rows) ≡ first_reported fault_of l.rows
