use Rattle.std.proofs.Common.{◌≡◌, ◌<◌, ◌∙◌, ◌+◌, [], ◌∷◌, ◌++◌, List, Contains, length, take, ap, subst, sym, take_all}
use Rattle.std.proofs.lemmas.List.{take_more}
use Rattle.std.proofs.lemmas.List.Elements.{Contains-get_or}
use Rattle.plant_trace.specs.{HasEdge, IsNext, Lists, AreWaiting, IsMentioned}
use Rattle.plant_trace.specs.declared.direction.Direction.TheVariants.{Forward}
use Rattle.plant_trace.specs.declared.node.Node.{Node}
use Rattle.plant_trace.proofs.DistinctNodes.{distinct_sorted, not_before}
use Rattle.plant_trace.proofs.IndexesNoted.{Grows-none, Grows-then}
use Rattle.plant_trace.proofs.NodesWaiting.{IsOpen, counted_down, open_all, open_none}
use Rattle.plant_trace.proofs.positions.take_after.Goals as goal

pub loop-next-init : goal.loop-next-init
loop-next-init c = record {
  grows = Grows-none c.args.ready.now.items;
  waiting = λ taken w untaken. open_none c.args.source.now.pairs.now taken c.args.node c.args.left.now c.args.ready.now.items w;
}

pub loop-next-preserved : goal.loop-next-preserved
loop-next-preserved c =
    let inv = c.loop-next.invariant in
    let pairs = c.args.source.now.pairs.now in
    let node = c.args.node in
    let after = c.deref-next-items.result.now in
    let lists = subst (Lists (IsNext Forward pairs node)) (sym c.deref-next-items.ensures.value) (c.in_ok-after.ensures.holds tt) in
    let i = c.loop-next.next-index in
    let next = c.next-item.result in
    let here : i < length after = c.loop-next-test.true in
    let more : take (i + 1) after ≡ take i after ++ next ∷ [] = take_more after i next here ∙ ap (λ (q : Node). take i after ++ q ∷ []) (sym c.next-item.is) in
    let edge : HasEdge pairs node next = lists.only next (subst (Contains after) (sym c.next-item.is) (Contains-get_or after i next here)) in
    record {
      grows = Grows-then c.args.ready.now.items c.loop-next.ready.items c.count_down.new.ready.items inv.grows c.in_ok-count_down.ensures.grows;
      waiting = λ taken w untaken.
          subst (λ (ns : List Node). AreWaiting (IsOpen pairs taken node ns) (IsMentioned pairs) c.count_down.new.left c.count_down.new.ready.items) (sym more)
          (counted_down pairs taken (take i after) node next c.loop-next.left c.count_down.new.left c.loop-next.ready.items c.count_down.new.ready.items
          edge (λ h. not_before after i next (distinct_sorted after lists.ascending) here (subst (Contains (take i after)) c.next-item.is h)) untaken
          (inv.waiting taken w untaken) c.in_ok-count_down.ensures.last c.in_ok-count_down.ensures.more);
    }

pub returns-clause-waiting : goal.returns-clause-waiting
returns-clause-waiting c = λ taken w untaken.
    let pairs = c.args.source.now.pairs.now in
    let after = c.deref-next-items.result.now in
    let lists = subst (Lists (IsNext Forward pairs c.args.node)) (sym c.deref-next-items.ensures.value) (c.in_ok-after.ensures.holds tt) in
    let whole = take_all c.loop-next.next-index after c.loop-next-test.false in
    open_all pairs taken c.args.node after c.loop-next.left c.loop-next.ready.items lists.all
    (subst (λ (ns : List Node). AreWaiting (IsOpen pairs taken c.args.node ns) (IsMentioned pairs) c.loop-next.left c.loop-next.ready.items) whole (c.loop-next.invariant.waiting taken w untaken))
