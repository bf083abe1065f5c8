use Rattle.genealogy_svg.proofs.PathsAlongEdges.{IsWay}
use Rattle.genealogy_svg.proofs.search.is_circle.Given as goal

abbrev pub invariant-loop-node : goal.invariant-loop-node
invariant-loop-node l = IsWay l.ends.rows.now l.first l.last l.node-index
