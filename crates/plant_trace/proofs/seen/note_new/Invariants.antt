use Rattle.std.proofs.Common.{take}
use Rattle.plant_trace.specs.{Adds, Queues}
use Rattle.plant_trace.proofs.seen.note_new.Given as goal

abbrev pub invariant-loop-node : goal.invariant-loop-node
invariant-loop-node l = record {
  adds : Adds (take l.node-index l.nodes) l.initial.seen.keys l.seen.keys;
  queues : Queues l.initial.seen.keys l.seen.keys l.initial.queue.items l.queue.items;
}
