use Rattle.plant_trace.proofs.HoldsIfHonest.{HoldsIfHonest-then}
use Rattle.plant_answers_genealogy.proofs.standing.lots_standing.Goals as goal

pub returns : goal.returns
returns g c =
    HoldsIfHonest-then g.met.V.Edges.kept_trans g.met.V.Edges.frame_trans c.in_ok-nodes.ensures c.each_row.ensures (λ k p q sound.
    let here = rw (g.met.V.View.kept_state _ _ k, c.as_slice.ensures.value, p) at q in
    here sound)
