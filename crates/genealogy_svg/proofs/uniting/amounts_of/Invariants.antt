use Rattle.std.proofs.Common.{◌≡◌, [], drop}
use Rattle.genealogy_svg.specs.{edges_from}
use Rattle.genealogy_svg.proofs.uniting.amounts_of.Given as goal

abbrev pub invariant-loop-edge : goal.invariant-loop-edge
invariant-loop-edge l = edges_from [] l.reported ≡ edges_from l.amounts.entries (drop l.edge-index l.reported)
