use Rattle.std.proofs.Common.{◌≡◌, ◌∙◌, filter_map}
use Rattle.plant_trace.proofs.HoldsIfHonest.{HoldsIfHonest-then}
use Rattle.plant_view.specs.{movements_of}
use Rattle.plant_answers_genealogy.specs.{consumption}
use Rattle.plant_answers_genealogy.proofs.BatchMovementsSuffice.{consumed_all, produced_all}
use Rattle.plant_answers_genealogy.proofs.bookings.bookings_of.Goals as goal

pub returns : goal.returns
returns g c =
    let s = g.V.View.state c.args.view.now in
    let batch = c.args.batch in
    let Moved : Type 0 = c.in_ok-movements.movements.items ≡ movements_of s batch in
    let Consumed : Type 0 = c.in_ok-consumed.consumed.items ≡ filter_map (consumption s batch) s.movements in
    let looked_up = HoldsIfHonest-then {R = Moved × Consumed} g.met.V.Edges.kept_trans g.met.V.Edges.frame_trans c.in_ok-movements.ensures c.in_ok-consumed.ensures (λ k p q.
    let taken = rw (g.met.V.View.kept_state _ _ k, c.as_slice.ensures.value, p) at q in
    (p, taken ∙ consumed_all s batch)) in
    HoldsIfHonest-then g.met.V.Edges.kept_trans g.met.V.Edges.frame_trans looked_up c.in_ok-produced.ensures (λ k p q.
    let brought = rw (g.met.V.View.kept_state _ _ k, c.as_slice-2.ensures.value, p.0) at q in
    record { consumed = p.1; produced = brought ∙ produced_all s batch })
