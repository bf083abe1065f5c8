use Rattle.std.proofs.Common.{◌≡◌, [], drop}
use Rattle.genealogy_svg.specs.{lots_in}
use Rattle.genealogy_svg.proofs.layouts.lots_in.Given as goal

abbrev pub invariant-loop-lot : goal.invariant-loop-lot
invariant-loop-lot l = lots_in l.positions [] l.lots ≡ lots_in l.positions l.drawn.items (drop l.lot-index l.lots)
