use Rattle.std.proofs.Common.{◌≡◌, take}
use Rattle.genealogy_svg.specs.{boxes_end, edge_end, greatest}
use Rattle.genealogy_svg.proofs.scalable.height_of.Given as goal

abbrev pub invariant-loop-edge : goal.invariant-loop-edge
invariant-loop-edge l = l.height ≡ greatest edge_end (boxes_end l.drawing) (take l.edge-index l.drawing.edges)
