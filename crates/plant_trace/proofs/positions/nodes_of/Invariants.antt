use Rattle.std.proofs.Common.{take}
use Rattle.plant_trace.specs.{IsMentioned}
use Rattle.plant_trace.proofs.NodeSets.{HasExactly}
use Rattle.plant_trace.proofs.positions.nodes_of.Given as goal

abbrev pub invariant-loop-pair : goal.invariant-loop-pair
invariant-loop-pair l = HasExactly (IsMentioned (take l.pair-index l.pairs)) l.nodes.keys
