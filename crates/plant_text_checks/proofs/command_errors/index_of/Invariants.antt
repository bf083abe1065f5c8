use Rattle.std.proofs.Common.{◌≡◌, drop}
use Rattle.plant_text_checks.specs.{index_of}
use Rattle.plant_text_checks.proofs.IndexesInLists.{place_on}
use Rattle.plant_text_checks.proofs.command_errors.index_of.Given as goal

-- none of the items so far passes
abbrev pub invariant-loop-index : goal.invariant-loop-index
invariant-loop-index g l = index_of (g.T.Once.again l.item) l.others ≡ place_on l.index (index_of (g.T.Once.again l.item) (drop l.index l.others))
