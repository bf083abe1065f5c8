use Rattle.std.proofs.lemmas.Result.{IfOk-from_err}
use Rattle.plant_trace.proofs.HoldsIfHonest.{HoldsIfHonest-then, HoldsIfHonest-weaker}
use Rattle.plant_questions.specs.declared.question.Answer.TheVariants as A
use Rattle.plant_answers_pages.proofs.FactsInTurn.{and_too}
use Rattle.plant_answers_pages.proofs.finding.find_answer.Goals as goal

pub returns-in_err-orders : goal.returns-in_err-orders
returns-in_err-orders g c =
    let kept = g.met.V.Edges.kept_trans in
    let frame = g.met.V.Edges.frame_trans in
    let to_classes = and_too kept frame c.in_ok-batches.ensures c.in_ok-classes.ensures (λ k q. rw (g.met.V.View.kept_state _ _ k) at q) in
    let to_definitions = and_too kept frame to_classes c.in_ok-definitions.ensures (λ k q. rw (g.met.V.View.kept_state _ _ k) at q) in
    let to_lots = and_too kept frame to_definitions c.in_ok-lots.ensures (λ k q. rw (g.met.V.View.kept_state _ _ k) at q) in
    HoldsIfHonest-then kept frame to_lots c.in_err-orders.ensures (λ k p q sound. IfOk-from_err _ _ c.from_residual-in_err-orders.ensures.0)

pub returns-in_err-recalls : goal.returns-in_err-recalls
returns-in_err-recalls g c =
    let kept = g.met.V.Edges.kept_trans in
    let frame = g.met.V.Edges.frame_trans in
    let to_classes = and_too kept frame c.in_ok-batches.ensures c.in_ok-classes.ensures (λ k q. rw (g.met.V.View.kept_state _ _ k) at q) in
    let to_definitions = and_too kept frame to_classes c.in_ok-definitions.ensures (λ k q. rw (g.met.V.View.kept_state _ _ k) at q) in
    let to_lots = and_too kept frame to_definitions c.in_ok-lots.ensures (λ k q. rw (g.met.V.View.kept_state _ _ k) at q) in
    let to_orders = and_too kept frame to_lots c.in_ok-orders.ensures (λ k q. rw (g.met.V.View.kept_state _ _ k) at q) in
    HoldsIfHonest-then kept frame to_orders c.in_err-recalls.ensures (λ k p q sound. IfOk-from_err _ _ c.from_residual-in_err-recalls.ensures.0)

pub returns-in_err-recipes : goal.returns-in_err-recipes
returns-in_err-recipes g c =
    let kept = g.met.V.Edges.kept_trans in
    let frame = g.met.V.Edges.frame_trans in
    let to_classes = and_too kept frame c.in_ok-batches.ensures c.in_ok-classes.ensures (λ k q. rw (g.met.V.View.kept_state _ _ k) at q) in
    let to_definitions = and_too kept frame to_classes c.in_ok-definitions.ensures (λ k q. rw (g.met.V.View.kept_state _ _ k) at q) in
    let to_lots = and_too kept frame to_definitions c.in_ok-lots.ensures (λ k q. rw (g.met.V.View.kept_state _ _ k) at q) in
    let to_orders = and_too kept frame to_lots c.in_ok-orders.ensures (λ k q. rw (g.met.V.View.kept_state _ _ k) at q) in
    let to_recalls = and_too kept frame to_orders c.in_ok-recalls.ensures (λ k q. rw (g.met.V.View.kept_state _ _ k) at q) in
    HoldsIfHonest-then kept frame to_recalls c.in_err-recipes.ensures (λ k p q sound. IfOk-from_err _ _ c.from_residual-in_err-recipes.ensures.0)

pub returns : goal.returns
returns g c =
    let kept = g.met.V.Edges.kept_trans in
    let frame = g.met.V.Edges.frame_trans in
    let to_classes = and_too kept frame c.in_ok-batches.ensures c.in_ok-classes.ensures (λ k q. rw (g.met.V.View.kept_state _ _ k) at q) in
    let to_definitions = and_too kept frame to_classes c.in_ok-definitions.ensures (λ k q. rw (g.met.V.View.kept_state _ _ k) at q) in
    let to_lots = and_too kept frame to_definitions c.in_ok-lots.ensures (λ k q. rw (g.met.V.View.kept_state _ _ k) at q) in
    let to_orders = and_too kept frame to_lots c.in_ok-orders.ensures (λ k q. rw (g.met.V.View.kept_state _ _ k) at q) in
    let to_recalls = and_too kept frame to_orders c.in_ok-recalls.ensures (λ k q. rw (g.met.V.View.kept_state _ _ k) at q) in
    let to_recipes = and_too kept frame to_recalls c.in_ok-recipes.ensures (λ k q. rw (g.met.V.View.kept_state _ _ k) at q) in
    HoldsIfHonest-weaker (λ all sound.
    let found = all sound in
    λ i. A.Found (record {
      batches = found.0.0.0.0.0.0 i;
      classes = found.0.0.0.0.0.1 i;
      definitions = found.0.0.0.0.1 i;
      lots = found.0.0.0.1 i;
      orders = found.0.0.1 i;
      recalls = found.0.1 i;
      recipes = found.1 i;
    })) to_recipes
