use Rattle.std.proofs.Common.{take}
use Rattle.genealogy_svg.proofs.RowsLoop.{Rowing}
use Rattle.genealogy_svg.proofs.rows.with_rows.Given as goal

abbrev pub invariant-loop-edge : goal.invariant-loop-edge
invariant-loop-edge l = Rowing (take l.edge-index l.edges) l.taken l.placed.items
