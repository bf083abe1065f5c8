use Rattle.std.proofs.Common.{◌≡◌, ◌∙◌, Some, sym, ap}
use Rattle.plant_base.specs.{recipe_at}
use Rattle.plant_trace.proofs.HoldsIfHonest.{HoldsIfHonest-then}
use Rattle.plant_questions.specs.declared.question.Answer.TheVariants as A
use Rattle.plant_answers.proofs.batch_answers.headed_answer.Goals as goal

pub returns : goal.returns
returns g c =
    let s = g.V.View.state c.args.view.now in
    HoldsIfHonest-then g.met.V.Edges.kept_trans g.met.V.Edges.frame_trans c.in_ok-recipe.ensures c.in_ok-found.ensures (λ k p q row.
    let found : recipe_at s c.args.job.order.recipe c.args.job.order.version ≡ Some c.in-Some.recipe = sym p ∙ c.in-Some.is in
    let here = rw (g.met.V.View.kept_state _ _ k) at q in
    rw found (ap A.Batch (here row)))
