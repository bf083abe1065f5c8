use Rattle.std.proofs.Common.{◌≡◌, [], drop}
use Rattle.genealogy_svg.specs.{lots_from}
use Rattle.genealogy_svg.proofs.uniting.lots_of.Given as goal

abbrev pub invariant-loop-lot : goal.invariant-loop-lot
invariant-loop-lot l = lots_from [] l.reported ≡ lots_from l.lots.entries (drop l.lot-index l.reported)
