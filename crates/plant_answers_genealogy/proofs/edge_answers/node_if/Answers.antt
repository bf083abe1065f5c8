use Rattle.plant_trace.proofs.HoldsIfHonest.{HoldsIfHonest-weaker}
use Rattle.plant_answers_genealogy.proofs.edge_answers.node_if.Goals as goal

pub returns : goal.returns
returns g c = HoldsIfHonest-weaker (λ q sound known.
    let reported = q sound known in
    (rw c.in-Some.is reported.0, reported.1, rw c.in-Some.is reported.2)) c.lot_node.ensures
