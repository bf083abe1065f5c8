use Rattle.std.proofs.Common.{◌≡◌, ◌<◌, ◌≤◌, ◌∙◌, ◌+◌, [], ◌∷◌, ◌++◌, List, Contains, length, take, ap, arith, get_or, subst, sym, btree_map_len, None, take_all}
use Rattle.std.specs.BTreeMap.{get}
use Rattle.plant_trace.specs.{AreIndexes, node_cmp, AreWaiting, Awaits, IsMentioned}
use Rattle.plant_trace.specs.declared.node.Node.{Node}
use Rattle.plant_trace.proofs.DistinctNodes.{not_before}
use Rattle.plant_trace.proofs.IndexesNoted.{Grows-longer, places_none, placed_more}
use Rattle.plant_trace.proofs.NodesWaiting.{counted_all}
use Rattle.plant_trace.proofs.TopologicalOrder.{first_taken, numbered, order_more, order_none, rises_if_acyclic, taken_more, unplaced}
use Rattle.plant_trace.proofs.positions.positions_of.Goals as goal

pub taken-init : goal.taken-init
taken-init c =
    let pairs = c.args.pairs.now in
    let lists = c.in_ok-nodes.ensures in
    let waiting = counted_all pairs c.in_ok-source.source.pairs.now c.in_ok-nodes.nodes.items c.deref.result.now c.count_all.new.left c.count_all.new.ready.items c.in_ok-source.ensures c.deref.ensures.value lists
    (c.in_ok-count_all.ensures.waiting c.new-left.ensures.empty c.new-ready.ensures.items) in
    record {
      same = c.count_all.ensures.same ∙ c.in_ok-source.ensures;
      reached = omega arith;
      ranks = places_none c.new-positions.result c.new-positions.ensures.empty;
      len = c.new-positions.ensures.len;
      waiting = waiting;
      order = order_none pairs c.count_all.new.left c.count_all.new.ready.items waiting;
    }

pub taken-preserved : goal.taken-preserved
taken-preserved c =
    let inv = c.taken.invariant in
    let pairs = c.args.pairs.now in
    let ready = c.taken.ready.items in
    let at = c.taken.at in
    let here : at < length ready = omega (arith, c.taken-test.true, c.len.ensures, c.taken.ready.ok.0) in
    let grown = c.take_after.new.ready.items in
    let grows = c.in_ok-take_after.ensures.grows in
    let node = c.index-node.result.now in
    let is : node ≡ get_or ready at node = c.index-node.ensures in
    let more : take (at + 1) grown ≡ take at ready ++ node ∷ [] = taken_more ready grown at node here grows ∙ ap (λ (x : Node). take at ready ++ x ∷ []) (sym is) in
    let taken = c.in_ok-take_after.ensures.waiting (take at ready)
    (subst (λ (ps : List (Node × Node)). AreWaiting (Awaits ps (take at ready)) (IsMentioned ps) c.taken.left ready) (sym inv.same) inv.waiting)
    (λ h. not_before ready at node inv.waiting.distinct here (subst (Contains (take at ready)) is h)) in
    let waiting : AreWaiting (Awaits pairs (take (at + 1) grown)) (IsMentioned pairs) c.take_after.new.left grown =
    subst (λ (ns : List Node). AreWaiting (Awaits pairs ns) (IsMentioned pairs) c.take_after.new.left grown) (sym more)
    (subst (λ (ps : List (Node × Node)). AreWaiting (Awaits ps (take at ready ++ node ∷ [])) (IsMentioned ps) c.take_after.new.left grown) inv.same taken) in
    let placed = c.index.result.now in
    let free : get node_cmp c.taken.positions placed ≡ None =
    subst (λ (x : Node). get node_cmp c.taken.positions x ≡ None) (sym c.index.ensures) (unplaced ready at placed c.taken.positions here inv.waiting.distinct inv.ranks) in
    record {
      same = c.take_after.ensures.same ∙ inv.same;
      reached = omega (arith, here, Grows-longer ready grown grows);
      ranks = placed_more ready grown at placed placed c.taken.positions c.assign.new.positions c.index.ensures here grows c.in_ok-assign.ensures.put inv.ranks;
      len = omega (arith, c.in_ok-assign.ensures.len free, inv.len);
      waiting = waiting;
      order = order_more pairs c.take_after.new.left ready grown at here grows waiting inv.order;
    }

pub returns : goal.returns
returns c =
    let inv = c.taken.invariant in
    let pairs = c.args.pairs.now in
    let ready = c.taken.ready.items in
    let lists = c.in_ok-nodes.ensures in
    let past : length ready ≤ c.taken.at = omega (arith, c.taken-test.false, c.len.ensures, c.taken.ready.ok.0) in
    let whole = take_all c.taken.at ready past in
    let ranks = subst (λ (ns : List Node). AreIndexes ns c.taken.positions) whole inv.ranks in
    let waiting = subst (λ (ns : List Node). AreWaiting (Awaits pairs ns) (IsMentioned pairs) c.taken.left ready) whole inv.waiting in
    let len : btree_map_len c.taken.positions ≡ length ready = omega (arith, inv.len, inv.reached, past) in
    record {
      places = (ready, first_taken pairs c.taken.left ready waiting, ranks);
      once = numbered pairs c.taken.left ready waiting c.taken.positions ranks inv.order len;
      rises = rises_if_acyclic pairs c.taken.left ready waiting c.taken.positions ranks inv.order c.in_ok-nodes.nodes.items lists.all lists.only;
    }
