use Rattle.std.proofs.Common.{◌≡◌, [], drop}
use Rattle.genealogy_svg.specs.{drawn_edges_in}
use Rattle.genealogy_svg.proofs.layouts.edges_in.Given as goal

abbrev pub invariant-loop-edge : goal.invariant-loop-edge
invariant-loop-edge l = drawn_edges_in l.positions [] l.edges ≡ drawn_edges_in l.positions l.drawn.items (drop l.edge-index l.edges)
