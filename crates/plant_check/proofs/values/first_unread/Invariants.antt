use Rattle.std.proofs.Common.{◌≡◌, ◌+◌, drop}
use Rattle.plant_check.specs.{first_unread}
use Rattle.plant_check.proofs.values.first_unread.Given as goal

-- the rows so far can be decoded: the first that can't is one of those that are left
abbrev pub invariant-loop-at : goal.invariant-loop-at
invariant-loop-at l = first_unread l.table (l.at + 1) (drop l.at l.rows) ≡ first_unread l.table 1 l.rows
