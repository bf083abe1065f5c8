use Rattle.plant_trace.proofs.HoldsIfHonest.{HoldsIfHonest-weaker}
use Rattle.plant_answers.specs.{IsFoundOf}
use Rattle.plant_answers.proofs.batch_answers.batch_view.Goals as goal

pub returns : goal.returns
returns g c =
    let s = g.V.View.state c.args.view.now in
    HoldsIfHonest-weaker (λ (found : IsFoundOf s c.args.row.now.batch.id c.in_ok-found.found) row. c.view_of.ensures s row found) c.in_ok-found.ensures
