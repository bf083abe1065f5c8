use Rattle.std.proofs.Common.{◌≡◌, ◌-◌, ◌^◌, ◌≤◌, length, take, btree_map_len}
use Rattle.plant_trace.specs.{AreIndexes, AreWaiting, Awaits, IsMentioned}
use Rattle.plant_trace.proofs.TopologicalOrder.{IsInOrder}
use Rattle.plant_trace.proofs.positions.positions_of.Given as goal

abbrev pub invariant-taken : goal.invariant-taken
invariant-taken l = record {
  same : l.source.pairs.now ≡ l.pairs;
  reached : l.at ≤ length l.ready.items;
  ranks : AreIndexes (take l.at l.ready.items) l.positions;
  len : btree_map_len l.positions ≡ l.at;
  waiting : AreWaiting (Awaits l.pairs (take l.at l.ready.items)) (IsMentioned l.pairs) l.left l.ready.items;
  order : IsInOrder l.pairs l.ready.items;
}

abbrev pub decreases-taken : goal.decreases-taken
decreases-taken l = 2 ^ 64 - l.at
