use Rattle.std.proofs.Common.{subst, sym}
use Rattle.plant_trace.specs.{HasEdge, Lists, IsRecalled}
use Rattle.plant_trace.specs.Reach.{Reach}
use Rattle.plant_trace.specs.declared.node.Node.TheVariants.{Lot}
use Rattle.plant_trace.proofs.RecallReaches.{with_start}
use Rattle.plant_trace.proofs.HoldsIfHonest.{HoldsIfHonest-weaker}
use Rattle.plant_trace.proofs.recalls.reached.Goals as goal

pub returns-clause-reported : goal.returns-clause-reported
returns-clause-reported g c =
    let pairs = g.E.Edges.pairs c.args.edges.now in
    let start = Lot c.args.lot in
    let e = c.in_ok-list_of.ensures in
    let first = rw (c.deref.ensures.value, c.new-all.ensures.empty) at c.in_ok-note_all.ensures in
    HoldsIfHonest-weaker
    (λ l. subst (Lists (IsRecalled pairs c.args.lot)) (sym e.items) (with_start (Reach (HasEdge pairs) start) start c.in_ok-prefetch.prefetch.items c.note_all.new.seen.keys c.note_all-2.new.seen.keys first c.in_ok-note_all-2.ensures e.ascending l))
    c.in_ok-prefetch.ensures.reported
