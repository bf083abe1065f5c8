use Rattle.std.proofs.Common.{◌≡◌, drop}
use Rattle.plant_requirements.specs.Movements.{are_distinct}
use Rattle.plant_requirements.proofs.movements.are_distinct.Given as goal

-- the parts so far are apart from all after them
abbrev pub invariant-loop-index : goal.invariant-loop-index
invariant-loop-index l = are_distinct (drop l.index l.parts) ≡ are_distinct l.parts
