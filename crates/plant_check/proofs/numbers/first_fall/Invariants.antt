use Rattle.std.proofs.Common.{◌≡◌, drop}
use Rattle.plant_check.specs.{fall_fault_in}
use Rattle.plant_check.proofs.numbers.first_fall.Given as goal

-- no moment fell so far: the first that does is one of those that are left
abbrev pub invariant-loop-row : goal.invariant-loop-row
invariant-loop-row g l = fall_fault_in g.R.TimedRow.time_key_of g.R.TimedRow.early l.before (drop l.row-index l.rows) ≡ fall_fault_in g.R.TimedRow.time_key_of g.R.TimedRow.early (0, 0) l.rows
