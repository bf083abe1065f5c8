use Rattle.std.proofs.Common.{◌≡◌, drop, None}
use Rattle.plant_check.specs.{line_fault_in}
use Rattle.plant_check.proofs.numbers.first_line_fault.Given as goal

-- the lines so far follow one another: the first that doesn't is one of those that are left
abbrev pub invariant-loop-movement : goal.invariant-loop-movement
invariant-loop-movement l = line_fault_in l.before (drop l.movement-index l.movements) ≡ line_fault_in None l.movements
