use Rattle.std.proofs.Common.{◌≡◌, ◌∙◌}
use Rattle.plant_base.specs.{job_at}
use Rattle.plant_trace.proofs.HoldsIfHonest.{HoldsIfHonest-then}
use Rattle.plant_view.specs.{events_of}
use Rattle.plant_answers_pages.specs.{last_moment, opened, phases_of, planned_of}
use Rattle.plant_answers_pages.proofs.open_batches.open_batch.Goals as goal

pub returns : goal.returns
returns g c =
    let s = g.V.View.state c.args.view.now in
    let batch = c.args.batch.now.batch in
    let Planned : Type 0 = c.in_ok-planned.planned ≡ planned_of s (job_at s batch.job) in
    let Phases : Type 0 = c.in_ok-phases.phases.items ≡ phases_of s batch.id in
    let looked_up = HoldsIfHonest-then {R = Planned × Phases} g.met.V.Edges.kept_trans g.met.V.Edges.frame_trans c.in_ok-planned.ensures c.in_ok-phases.ensures (λ k p q. (p, rw (g.met.V.View.kept_state _ _ k) at q)) in
    HoldsIfHonest-then g.met.V.Edges.kept_trans g.met.V.Edges.frame_trans looked_up c.in_ok-last.ensures (λ k p q.
    let last : c.in_ok-last.last ≡ last_moment batch (events_of s batch.id) = rw (g.met.V.View.kept_state _ _ k) at q in
    let is : c.opened.result ≡ opened c.args.batch.now c.in_ok-planned.planned c.in_ok-phases.phases.items c.in_ok-last.last = rw c.as_slice.ensures.value at c.opened.ensures in
    is ∙ (λ i. opened c.args.batch.now (p.0 i) (p.1 i) (last i)))
