use Rattle.std.proofs.Common.{◌≡◌, ◌∙◌, Some, sym, ap}
use Rattle.plant_base.specs.{lot_at}
use Rattle.plant_trace.proofs.HoldsIfHonest.{HoldsIfHonest-then}
use Rattle.plant_answers_genealogy.specs.{answer_lot}
use Rattle.plant_questions.specs.declared.question.Answer.TheVariants as A
use Rattle.plant_answers_genealogy.proofs.lot_answers.lot_answer.Goals as goal

pub returns : goal.returns
returns g c =
    let s = g.V.View.state c.args.view.now in
    HoldsIfHonest-then g.met.V.Edges.kept_trans g.met.V.Edges.frame_trans c.in_ok-row.ensures c.in_ok-found_lot.ensures (λ k p q sound.
    let found : lot_at s c.args.lot ≡ Some c.in-Some.row = sym p ∙ c.in-Some.is in
    let here = rw (g.met.V.View.kept_state _ _ k) at q in
    ap A.Lot (here sound) ∙ ap (answer_lot s) (sym found))
