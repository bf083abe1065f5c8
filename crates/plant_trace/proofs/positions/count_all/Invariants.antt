use Rattle.std.proofs.Common.{◌≡◌, [], take, Contains}
use Rattle.std.specs.BTreeMap.{IsEmpty}
use Rattle.plant_trace.specs.{AreDistinct, AreWaiting, Awaits}
use Rattle.plant_trace.proofs.positions.count_all.Given as goal

abbrev pub invariant-loop-node : goal.invariant-loop-node
invariant-loop-node l = record {
  same : l.source.pairs.now ≡ l.initial.source.pairs.now;
  waiting : IsEmpty l.initial.left → l.initial.ready.items ≡ [] → AreDistinct l.nodes
      → AreWaiting (Awaits l.initial.source.pairs.now []) (Contains (take l.node-index l.nodes)) l.left l.ready.items;
}
