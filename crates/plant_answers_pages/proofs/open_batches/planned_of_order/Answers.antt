use Rattle.std.proofs.Common.{◌≡◌, ◌∙◌, Some, sym, ap}
use Rattle.plant_base.specs.{recipe_at}
use Rattle.plant_trace.proofs.HoldsIfHonest.{HoldsIfHonest-then}
use Rattle.plant_answers_pages.proofs.open_batches.planned_of_order.Goals as goal

pub returns : goal.returns
returns g c =
    let s = g.V.View.state c.args.view.now in
    HoldsIfHonest-then g.met.V.Edges.kept_trans g.met.V.Edges.frame_trans c.in_ok-recipe.ensures c.in_ok-planned.ensures (λ k p q.
    let found : recipe_at s c.args.order.recipe c.args.order.version ≡ Some c.in-Some.recipe = sym p ∙ c.in-Some.is in
    let here = rw (g.met.V.View.kept_state _ _ k) at q in
    rw found (ap Some here))
