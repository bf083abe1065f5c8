use Rattle.std.proofs.Common.{◌≡◌, take, All}
use Rattle.plant_trace.specs.{rank_of}
use Rattle.genealogy_svg.specs.{height, IsLayered}
use Rattle.genealogy_svg.proofs.layers.height_of.Given as goal

abbrev pub invariant-loop-edge : goal.invariant-loop-edge
invariant-loop-edge l = record {
  height : l.highest ≡ height (rank_of l.layers) (take l.edge-index l.edges);
  all : All (λ e. IsLayered l.layers e.from) (take l.edge-index l.edges);
}
