use Rattle.std.proofs.Common.{◌≡◌, drop}
use Rattle.plant_recipe.specs.{has_no_repeats}
use Rattle.plant_recipe.proofs.well_formed.repeats_nothing.Given as goal

-- the lines so far repeat nothing
abbrev pub invariant-loop-index : goal.invariant-loop-index
invariant-loop-index l = has_no_repeats (drop l.index l.lines) ≡ has_no_repeats l.lines
