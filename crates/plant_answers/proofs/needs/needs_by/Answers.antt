use Rattle.std.proofs.Common.{◌≡◌, ◌∙◌, filter_map}
use Rattle.plant_trace.proofs.HoldsIfHonest.{HoldsIfHonest-then}
use Rattle.plant_answers_pages.specs.{recipe_answer}
use Rattle.plant_answers.specs.Needs.{need_of}
use Rattle.plant_answers.specs.Stock.{all_in_stock}
use Rattle.plant_answers.proofs.needs.needs_by.Goals as goal

pub returns-in-Ok : goal.returns-in-Ok
returns-in-Ok g c =
    let s = g.V.View.state c.args.view.now in
    HoldsIfHonest-then g.met.V.Edges.kept_trans g.met.V.Edges.frame_trans c.in_ok-lots.ensures c.in_ok-lines.ensures (λ k p q sound.
    let lots : c.as_slice.result.now ≡ all_in_stock s = c.as_slice.ensures.value ∙ p sound in
    let lines : c.in_ok-lines.lines ≡ recipe_answer s c.in-Some.recipe = rw (g.met.V.View.kept_state _ _ k) at q in
    rw c.in-Some.is (c.in-Ok.ensures ∙ (λ i. filter_map (need_of (lots i) c.args.size (lines i).recipe.header.base) (lines i).lines)))
