use Rattle.std.proofs.Common.{◌≡◌, ◌+◌, drop, map}
use Rattle.plant_requirements.specs.{are_numbered}
use Rattle.plant_requirements.proofs.numbered.are_numbered.Given as goal

-- the rows so far are numbered: all are where those that are left go on from the next number
abbrev pub invariant-loop-row : goal.invariant-loop-row
invariant-loop-row g l =
    (l.next ≡ l.first + l.row-index)
    × (are_numbered l.next (map g.R.Numbered.number_of (drop l.row-index l.rows)) ≡ are_numbered l.first (map g.R.Numbered.number_of l.rows))
