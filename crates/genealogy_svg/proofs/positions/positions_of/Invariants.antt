use Rattle.std.proofs.Common.{take}
use Rattle.genealogy_svg.proofs.PositionsLoop.{Placing}
use Rattle.genealogy_svg.proofs.positions.positions_of.Given as goal

abbrev pub invariant-loop-node : goal.invariant-loop-node
invariant-loop-node l = Placing l.layers (take l.node-index l.nodes) l.taken l.positions
