use Rattle.std.proofs.Common.{◌≡◌, ◌+◌, drop}
use Rattle.plant_check.specs.{first_unread_of}
use Rattle.plant_check.proofs.values.first_unread_of.Given as goal

-- the rows of the tables so far can be decoded: the first that can't is of one of those that are left
abbrev pub invariant-loop-at : goal.invariant-loop-at
invariant-loop-at l = first_unread_of l.loaded (l.at + 1) (drop l.at l.tables) ≡ first_unread_of l.loaded 1 l.tables
