use Rattle.std.proofs.Common.{take}
use Rattle.plant_trace.specs.{IsNext}
use Rattle.plant_trace.proofs.NodeSets.{HasExactly}
use Rattle.plant_trace.proofs.listed.neighbours.Given as goal

abbrev pub invariant-loop-pair : goal.invariant-loop-pair
invariant-loop-pair l = HasExactly (IsNext l.direction (take l.pair-index l.pairs) l.node) l.found.keys
