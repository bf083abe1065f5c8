use Rattle.plant_trace.proofs.HoldsIfHonest.{HoldsIfHonest-weaker}
use Rattle.plant_answers_pages.proofs.BatchIds.{found_row}
use Rattle.plant_answers_pages.proofs.rows_with_ids.BatchRowHasId.is_there.Goals as goal

pub returns : goal.returns
returns g c =
    let s = g.V.View.state c.args.view.now in
    HoldsIfHonest-weaker (λ q. rw (found_row s.control_lines s.events c.args.id s.batches) at q) c.is_batch.ensures
