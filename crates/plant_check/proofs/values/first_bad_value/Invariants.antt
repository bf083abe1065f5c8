use Rattle.std.proofs.Common.{◌≡◌, drop}
use Rattle.plant_check.specs.{first_bad_value}
use Rattle.plant_check.proofs.values.first_bad_value.Given as goal

-- the values so far obey their rules: the first that doesn't is one of those that are left
abbrev pub invariant-loop-at : goal.invariant-loop-at
invariant-loop-at l = first_bad_value (drop l.at l.rules) l.at l.row ≡ first_bad_value l.rules 0 l.row
