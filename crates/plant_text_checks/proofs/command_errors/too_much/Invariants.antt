use Rattle.std.proofs.Common.{◌≡◌, drop, not}
use Rattle.plant_recipe.specs.{fits}
use Rattle.plant_text_checks.specs.{index_of}
use Rattle.plant_text_checks.proofs.IndexesInLists.{place_on}
use Rattle.plant_text_checks.proofs.command_errors.too_much.Given as goal

-- each of the lines so far fits
abbrev pub invariant-loop-index : goal.invariant-loop-index
invariant-loop-index l = index_of (λ line. not (fits l.base l.size line)) l.lines ≡ place_on l.index (index_of (λ line. not (fits l.base l.size line)) (drop l.index l.lines))
