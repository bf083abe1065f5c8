use Rattle.std.proofs.Common.{List, take, Contains}
use Rattle.plant_trace.specs.{Grows, AreWaiting, Awaits, IsMentioned}
use Rattle.plant_trace.specs.declared.node.Node.{Node}
use Rattle.plant_trace.proofs.NodesWaiting.{IsOpen}
use Rattle.plant_trace.proofs.positions.take_after.Given as goal

abbrev pub invariant-loop-next : goal.invariant-loop-next
invariant-loop-next l = record {
  grows : Grows l.initial.ready.items l.ready.items;
  waiting : (taken : List Node) → AreWaiting (Awaits l.fn.source.pairs.now taken) (IsMentioned l.fn.source.pairs.now) l.initial.left l.initial.ready.items → (Contains taken l.fn.node → ⊥)
      → AreWaiting (IsOpen l.fn.source.pairs.now taken l.fn.node (take l.next-index l.next-items)) (IsMentioned l.fn.source.pairs.now) l.left l.ready.items;
}
