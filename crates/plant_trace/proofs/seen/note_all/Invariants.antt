use Rattle.std.proofs.Common.{take}
use Rattle.plant_trace.specs.{Adds}
use Rattle.plant_trace.proofs.seen.note_all.Given as goal

abbrev pub invariant-loop-node : goal.invariant-loop-node
invariant-loop-node l = Adds (take l.node-index l.nodes) l.initial.seen.keys l.seen.keys
