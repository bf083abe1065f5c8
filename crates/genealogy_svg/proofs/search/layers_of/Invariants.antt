use Rattle.std.proofs.Common.{take, All}
use Rattle.genealogy_svg.specs.{AreSettled, IsLayered}
use Rattle.genealogy_svg.proofs.search.layers_of.Given as goal

abbrev pub invariant-loop-node : goal.invariant-loop-node
invariant-loop-node l = record {
  settled : AreSettled l.ends.rows.now l.layers;
  all : All (IsLayered l.layers) (take l.node-index l.nodes);
}
