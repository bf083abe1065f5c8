use Rattle.std.proofs.Common.{◌<◌, ◌+◌, ◌∙◌, length, sym, subst, arith, take_all}
use Rattle.std.proofs.lemmas.List.Elements.{All-nil, All-contains}
use Rattle.plant_trace.specs.{Lists, IsReached, IsNext}
use Rattle.plant_trace.proofs.HoldsIfHonest.{HoldsIfHonest-then, HoldsIfHonest-weaker}
use Rattle.plant_trace.proofs.SearchFinds.{Asked, Found-first, turn, turn_skipped, finished}
use Rattle.plant_trace.proofs.NodeOrder.{node_eq_exact}
use Rattle.plant_trace.proofs.worklist.closure.Goals as goal

pub walk-init : goal.walk-init
walk-init g c =
    let edge = IsNext c.args.direction (g.E.Edges.pairs c.args.edges.now) in
    let adds = rw (c.deref.ensures.value, c.new-seen.ensures.empty) at c.in_ok-note_new.ensures.adds in
    let queues = rw (c.new-seen.ensures.empty, c.new-queue.ensures.items) at c.in_ok-note_new.ensures.queues in
    record {
      reported = HoldsIfHonest-weaker (λ l. (Found-first edge c.args.start c.in_ok-first.first.items c.note_new.new.seen.keys adds l, All-nil (Asked edge c.note_new.new.seen.keys))) c.in_ok-first.ensures;
      same = queues.same (record { all = λ y h. h; only = λ y h. h });
      reached = omega arith;
    }

pub walk-preserved-then-eq : goal.walk-preserved-then-eq
walk-preserved-then-eq g c =
    let inv = c.walk.invariant in
    let edge = IsNext c.args.direction (g.E.Edges.pairs c.args.edges.now) in
    let queue = c.walk.queue.items in
    let here : c.walk.at < length queue = omega (arith, c.walk-test.true, c.len.ensures, c.walk.queue.ok.0) in
    let same = sym c.index.ensures ∙ node_eq_exact _ _ (sym c.eq.ensures ∙ c.if-eq.true) in
    record {
      reported = HoldsIfHonest-weaker (λ p. (p.0, turn_skipped edge c.args.start _ c.walk.seen.keys queue c.walk.at here same p)) inv.reported;
      same = inv.same;
      reached = omega (arith, here);
    }

pub walk-preserved : goal.walk-preserved
walk-preserved g c =
    let inv = c.walk.invariant in
    let edge = IsNext c.args.direction (g.E.Edges.pairs c.args.edges.now) in
    let queue = c.walk.queue.items in
    let here : c.walk.at < length queue = omega (arith, c.walk-test.true, c.len.ensures, c.walk.queue.ok.0) in
    let adds = rw c.deref-in-walk.ensures.value at c.in_ok-note_new-2.ensures.adds in
    let queues = c.in_ok-note_new-2.ensures.queues in
    record {
      reported = HoldsIfHonest-then g.met.E.Edges.kept_trans g.met.E.Edges.frame_trans inv.reported c.in_ok-next.ensures (λ k p q.
          let t = turn edge c.args.start _ c.walk.seen.keys c.in_ok-next.next.items c.note_new-in-walk.new.seen.keys queue c.walk.at here inv.same.only adds (rw (g.met.E.Edges.kept_pairs _ _ k, c.index.ensures) at q) p in
          (t.0, rw (queues.prefix (c.walk.at + 1) (omega (arith, here))) t.1));
      same = queues.same inv.same;
      reached = omega (arith, here, queues.longer);
    }

pub returns-clause-reported : goal.returns-clause-reported
returns-clause-reported g c =
    let inv = c.walk.invariant in
    let pairs = g.E.Edges.pairs c.args.edges.now in
    let seen = c.walk.seen.keys in
    let asked = take_all c.walk.at c.walk.queue.items (omega (arith, c.walk-test.false, c.len.ensures, c.walk.queue.ok.0)) in
    HoldsIfHonest-weaker
    (λ p. subst (Lists (IsReached c.args.direction pairs c.args.start)) (sym c.in_ok-list_of.ensures.items) (finished c.args.direction pairs c.args.start seen c.in_ok-list_of.ensures.ascending p.0 (λ x h. All-contains (Asked (IsNext c.args.direction pairs) seen) c.walk.queue.items x (rw asked at p.1) (inv.same.all x h))))
    inv.reported
