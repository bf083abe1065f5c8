use Rattle.plant_trace.proofs.HoldsIfHonest.{HoldsIfHonest-weaker}
use Rattle.plant_answers_pages.proofs.BatchIds.{ids_of_rows}
use Rattle.plant_answers_pages.proofs.finding.batches_begun.Goals as goal

pub returns : goal.returns
returns g c =
    let s = g.V.View.state c.args.view.now in
    HoldsIfHonest-weaker (λ q sound. rw (ids_of_rows s.control_lines s.events s.batches) at (q sound)) c.ids_begun.ensures
