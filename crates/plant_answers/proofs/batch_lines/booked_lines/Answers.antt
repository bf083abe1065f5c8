use Rattle.plant_trace.proofs.HoldsIfHonest.{HoldsIfHonest-then}
use Rattle.plant_answers.proofs.batch_lines.booked_lines.Goals as goal

pub returns : goal.returns
returns g c =
    let s = g.V.View.state c.args.view.now in
    HoldsIfHonest-then g.met.V.Edges.kept_trans g.met.V.Edges.frame_trans c.in_ok-lines.ensures c.in_ok-bookings.ensures (λ k p q.
    let found = rw (g.met.V.View.kept_state _ _ k) at q in
    c.in_ok-rows.ensures s c.args.batch (rw c.as_slice.ensures.value p) found)
