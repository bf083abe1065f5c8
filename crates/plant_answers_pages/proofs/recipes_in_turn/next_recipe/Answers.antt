use Rattle.std.proofs.Common.{◌∙◌, ap}
use Rattle.plant_trace.proofs.HoldsIfHonest.{HoldsIfHonest-weaker}
use Rattle.plant_answers_pages.proofs.RecipesInTurn.{next_recipe_is}
use Rattle.plant_answers_pages.proofs.recipes_in_turn.next_recipe.Goals as goal

pub returns : goal.returns
returns g c =
    let s = g.V.View.state c.args.view.now in
    rw c.in-Some.is (HoldsIfHonest-weaker (λ q sound within. next_recipe_is s sound c.args.beginning _ within _ (c.as_slice.ensures ∙ ap (λ page. page.rows) q) _ c.first_within.ensures) c.in_ok-page.ensures)
