use Rattle.std.proofs.Common.{◌∙◌, sym}
use Rattle.plant_base.specs.{batch_at}
use Rattle.plant_trace.proofs.HoldsIfHonest.{HoldsIfHonest-then}
use Rattle.plant_answers.proofs.BatchRowLookup.{row_found}
use Rattle.plant_answers.proofs.batch_answers.batch_answer.Goals as goal

pub returns : goal.returns
returns g c =
    let s = g.V.View.state c.args.view.now in
    HoldsIfHonest-then g.met.V.Edges.kept_trans g.met.V.Edges.frame_trans c.in_ok-row.ensures c.planned_answer.ensures (λ k p q sound.
    let found = row_found s c.in-Some.row (batch_at s c.args.id) (sym c.in-Some.is ∙ p sound) in
    let here = rw (g.met.V.View.kept_state _ _ k) at q in
    rw found.1 (here found.0))
