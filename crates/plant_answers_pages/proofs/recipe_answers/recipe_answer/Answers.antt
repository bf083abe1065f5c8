use Rattle.std.proofs.Common.{◌∙◌, ap, sym}
use Rattle.plant_trace.proofs.HoldsIfHonest.{HoldsIfHonest-then}
use Rattle.plant_questions.specs.declared.question.Answer.TheVariants as A
use Rattle.plant_answers_pages.proofs.recipe_answers.recipe_answer.Goals as goal

pub returns : goal.returns
returns g c = HoldsIfHonest-then g.met.V.Edges.kept_trans g.met.V.Edges.frame_trans c.in_ok-recipe.ensures c.in_ok-found_recipe.ensures (λ k p q.
    let found = sym p ∙ c.in-Some.is in
    let here = rw (g.met.V.View.kept_state _ _ k) at q in
    rw found (ap A.Recipe here))
