use Rattle.std.proofs.Common.{rules, ◌≡◌, ◌++◌, option_to_list}
use Rattle.std.proofs.lemmas.Result.{IfOk-from_err}
use Rattle.plant_trace.proofs.HoldsIfHonest.{HoldsIfHonest-then}
use Rattle.plant_answers_genealogy.specs.{booked_on}
use Rattle.plant_answers_genealogy.proofs.BatchMovementsSuffice.{reported_more}
use Rattle.plant_answers_genealogy.proofs.bookings.booked_by.Goals as goal

pub loop-movement-preserved : goal.loop-movement-preserved
loop-movement-preserved g c =
    let pushed : c.push_found.new.rows.items ≡ c.loop-movement.rows.items ++ option_to_list c.in_ok-found.found = search rules in
    HoldsIfHonest-then g.met.V.Edges.kept_trans g.met.V.Edges.frame_trans c.loop-movement.invariant c.in_ok-found.ensures (λ k p q.
    let is = rw (g.met.V.View.kept_state _ _ k) at q in
    rw pushed (reported_more (booked_on c.args.side (g.V.View.state c.args.view.now) c.args.batch) c.args.movements.now c.loop-movement.movement-index c.movement-item.result c.loop-movement.rows.items c.in_ok-found.found c.loop-movement-test.true c.movement-item.is is p))

pub returns-then-is_err : goal.returns-then-is_err
returns-then-is_err g c = HoldsIfHonest-then g.met.V.Edges.kept_trans g.met.V.Edges.frame_trans c.loop-movement.invariant c.in_ok-found.ensures (λ k p q. tt)

pub returns-in_err-found : goal.returns-in_err-found
returns-in_err-found g c = HoldsIfHonest-then g.met.V.Edges.kept_trans g.met.V.Edges.frame_trans c.loop-movement.invariant c.in_err-found.ensures (λ k p q. IfOk-from_err _ _ c.from_residual.ensures.0)
