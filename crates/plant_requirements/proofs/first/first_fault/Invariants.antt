use Rattle.std.proofs.Common.{◌≡◌, drop}
use Rattle.plant_requirements.specs.{first_reported}
use Rattle.plant_requirements.proofs.first.first_fault.Given as goal

-- the rows so far have no fault: the first is one of those that are left
abbrev pub invariant-loop-row : goal.invariant-loop-row
invariant-loop-row g l = first_reported (g.T.RowRule.fault_of l.rule) (drop l.row-index l.rows) ≡ first_reported (g.T.RowRule.fault_of l.rule) l.rows
