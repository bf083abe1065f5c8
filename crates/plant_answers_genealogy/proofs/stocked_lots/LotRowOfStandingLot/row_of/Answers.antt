use Rattle.plant_trace.proofs.HoldsIfHonest.{HoldsIfHonest-then}
use Rattle.plant_questions.proofs.PrefetchSteps.{of_any}
use Rattle.plant_answers_genealogy.proofs.stocked_lots.LotRowOfStandingLot.row_of.Goals as goal

pub returns : goal.returns
returns g c = HoldsIfHonest-then g.met.V.Edges.kept_trans g.met.V.Edges.frame_trans c.in_ok-found.ensures c.standing_if.ensures (λ k p q sound known.
    let reported = p sound known in
    let here = rw (g.met.V.View.kept_state _ _ k, reported.0) at q in
    (here, reported.1, of_any c.standing_if.result reported.2))
