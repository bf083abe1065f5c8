use Rattle.plant_trace.proofs.HoldsIfHonest.{HoldsIfHonest-then}
use Rattle.plant_answers.proofs.needs.needs_of.Goals as goal

pub returns : goal.returns
returns g c =
    HoldsIfHonest-then g.met.V.Edges.kept_trans g.met.V.Edges.frame_trans c.in_ok-found.ensures c.needs_by.ensures (λ k p q sound.
    let here = rw (g.met.V.View.kept_state _ _ k, p) at q in
    here sound)
