use Rattle.std.proofs.Common.{◌≡◌, ◌∙◌, Some, sym}
use Rattle.plant_base.specs.{job_at}
use Rattle.plant_trace.proofs.HoldsIfHonest.{HoldsIfHonest-then}
use Rattle.plant_answers_pages.proofs.open_batches.planned_of.Goals as goal

pub returns : goal.returns
returns g c =
    let s = g.V.View.state c.args.view.now in
    HoldsIfHonest-then g.met.V.Edges.kept_trans g.met.V.Edges.frame_trans c.in_ok-job.ensures c.planned_of_order.ensures (λ k p q.
    let found : job_at s c.args.order ≡ Some c.in-Some.job = sym p ∙ c.in-Some.is in
    let here = rw (g.met.V.View.kept_state _ _ k) at q in
    rw found here)
