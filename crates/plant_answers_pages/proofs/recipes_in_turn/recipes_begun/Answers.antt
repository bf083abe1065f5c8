use Rattle.std.proofs.Common.{◌≡◌, ◌∙◌, sym, ap, is_some, find, slice_get}
use Rattle.plant_trace.proofs.HoldsIfHonest.{HoldsIfHonest-then}
use Rattle.plant_base.specs.{same, Recipe}
use Rattle.plant_questions.specs.{first_begun}
use Rattle.plant_answers_pages.specs.{own_first}
use Rattle.plant_answers_pages.proofs.EachIdOnce.{begun_once}
use Rattle.plant_answers_pages.proofs.RecipesInTurn.{has_version, recipes_sorted}
use Rattle.plant_answers_pages.proofs.recipes_in_turn.recipes_begun.Goals as goal

pub returns : goal.returns
returns g c =
    let s = g.V.View.state c.args.view.now in
    let beginning = c.args.beginning in
    HoldsIfHonest-then g.met.V.Edges.kept_trans g.met.V.Edges.frame_trans c.in_ok-own.ensures c.in_ok-further.ensures (λ k p q sound.
    let here = rw (g.met.V.View.kept_state _ _ k) at q in
    let further = here sound in
    let there : c.has_any.result ≡ is_some (find (λ (r : Recipe). same r.header.recipe beginning) s.recipes) = c.has_any.ensures ∙ ap (λ rows. is_some (slice_get rows 0)) (c.as_slice.ensures.value ∙ p) ∙ sym (has_version beginning s.recipes) in
    c.in_ok-ids.ensures ∙ (λ i. first_begun beginning (own_first (there i) beginning (further i))) ∙ sym (begun_once (λ (r : Recipe). r.header.recipe) s.recipes (recipes_sorted s sound) beginning))
