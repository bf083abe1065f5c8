use Rattle.std.proofs.Common.{◌≡◌, map}
use Rattle.std.proofs.lemmas.Result.{IfOk-from_err}
use Rattle.plant_base.specs.{control_lines_of}
use Rattle.plant_trace.proofs.HoldsIfHonest.{HoldsIfHonest-then}
use Rattle.plant_view.specs.{events_of}
use Rattle.plant_answers.specs.{measured_line}
use Rattle.plant_answers.proofs.batch_answers.found_batch.Goals as goal

pub returns : goal.returns
returns g c =
    let s = g.V.View.state c.args.view.now in
    let Lines : Type 0 = c.in_ok-lines.lines.items ≡ map (measured_line s.definitions) (control_lines_of s c.args.batch) in
    let Events : Type 0 = c.in_ok-events.events.items ≡ events_of s c.args.batch in
    let looked_up = HoldsIfHonest-then {R = Lines × Events} g.met.V.Edges.kept_trans g.met.V.Edges.frame_trans c.in_ok-lines.ensures c.in_ok-events.ensures (λ k p q. (p, rw (g.met.V.View.kept_state _ _ k) at q)) in
    HoldsIfHonest-then g.met.V.Edges.kept_trans g.met.V.Edges.frame_trans looked_up c.in_ok-bookings.ensures (λ k p q.
    record { lines = p.0; events = p.1; bookings = rw (g.met.V.View.kept_state _ _ k) at q })

pub returns-in_err-events : goal.returns-in_err-events
returns-in_err-events g c = HoldsIfHonest-then g.met.V.Edges.kept_trans g.met.V.Edges.frame_trans c.in_ok-lines.ensures c.in_err-events.ensures (λ k p q. IfOk-from_err _ _ c.from_residual-in_err-events.ensures.0)

pub returns-in_err-bookings : goal.returns-in_err-bookings
returns-in_err-bookings g c =
    let looked_up = HoldsIfHonest-then {R = Unit} g.met.V.Edges.kept_trans g.met.V.Edges.frame_trans c.in_ok-lines.ensures c.in_ok-events.ensures (λ k p q. tt) in
    HoldsIfHonest-then g.met.V.Edges.kept_trans g.met.V.Edges.frame_trans looked_up c.in_err-bookings.ensures (λ k p q. IfOk-from_err _ _ c.from_residual-in_err-bookings.ensures.0)
