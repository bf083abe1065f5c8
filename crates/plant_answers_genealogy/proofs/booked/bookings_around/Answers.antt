use Rattle.std.proofs.Common.{rules, ◌≡◌, ◌++◌, ◌∙◌, ap, filter_map}
use Rattle.std.proofs.lemmas.Result.{IfOk-from_err}
use Rattle.plant_trace.proofs.HoldsIfHonest.{HoldsIfHonest-then}
use Rattle.plant_answers_genealogy.specs.{booked_at}
use Rattle.plant_answers_genealogy.proofs.BookingsBetweenNodes.{all_booked}
use Rattle.plant_answers_genealogy.proofs.BookingLoops.{joined_more}
use Rattle.plant_answers_genealogy.proofs.booked.bookings_around.Goals as goal

pub loop-node-preserved : goal.loop-node-preserved
loop-node-preserved g c =
    let nodes = c.args.nodes.now in
    let s = g.V.View.state c.args.view.now in
    let pushed : c.push_bookings.new.rows.items ≡ c.loop-node.rows.items ++ filter_map (booked_at nodes c.node-item.result) c.as_slice.result.now = search (rules, c.push_bookings.ensures nodes c.in-Ok.ensures) in
    HoldsIfHonest-then g.met.V.Edges.kept_trans g.met.V.Edges.frame_trans c.loop-node.invariant c.in_ok-movements.ensures (λ k p q.
    let found = rw (g.met.V.View.kept_state _ _ k) at q in
    let here = ap (filter_map (booked_at nodes c.node-item.result)) (c.as_slice.ensures.value ∙ found) ∙ all_booked s nodes c.node-item.result in
    pushed ∙ joined_more (λ x. filter_map (booked_at nodes x) s.movements) nodes c.loop-node.node-index c.node-item.result c.loop-node.rows.items _ c.loop-node-test.true c.node-item.is here p)

pub returns-then-is_err : goal.returns-then-is_err
returns-then-is_err g c = HoldsIfHonest-then g.met.V.Edges.kept_trans g.met.V.Edges.frame_trans c.loop-node.invariant c.in_ok-movements.ensures (λ k p q. tt)

pub returns-in_err-movements : goal.returns-in_err-movements
returns-in_err-movements g c = HoldsIfHonest-then g.met.V.Edges.kept_trans g.met.V.Edges.frame_trans c.loop-node.invariant c.in_err-movements.ensures (λ k p q. IfOk-from_err _ _ c.from_residual.ensures.0)
