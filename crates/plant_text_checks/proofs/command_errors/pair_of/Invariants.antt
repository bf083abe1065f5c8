use Rattle.std.proofs.Common.{◌≡◌, drop}
use Rattle.plant_text_checks.specs.{pair_of}
use Rattle.plant_text_checks.proofs.IndexesInLists.{pair_on}
use Rattle.plant_text_checks.proofs.command_errors.pair_of.Given as goal

-- none of the items so far is repeated
abbrev pub invariant-loop-index : goal.invariant-loop-index
invariant-loop-index g l = pair_of g.T.Once.again l.items ≡ pair_on l.index (pair_of g.T.Once.again (drop l.index l.items))
