use Rattle.plant_trace.specs.{Node}
use Rattle.genealogy_svg.specs.{AreSettled, IsLayered}
use Rattle.genealogy_svg.proofs.search.layer_node.Given as goal

abbrev pub invariant-steps : goal.invariant-steps
invariant-steps l = record {
  settled : AreSettled l.ends.rows.now l.fn.layers → AreSettled l.ends.rows.now l.layers;
  more : (other : Node) → IsLayered l.fn.layers other → IsLayered l.layers other;
}
