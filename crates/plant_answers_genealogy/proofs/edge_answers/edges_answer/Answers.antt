use Rattle.std.proofs.Common.{◌≡◌, ◌∙◌, None, sym, ap}
use Rattle.plant_trace.proofs.HoldsIfHonest.{HoldsIfHonest-then, HoldsIfHonest-weaker}
use Rattle.plant_answers_genealogy.specs.{answer_edges, missing}
use Rattle.plant_answers_genealogy.proofs.edge_answers.edges_answer.Goals as goal

pub returns-in-Some : goal.returns-in-Some
returns-in-Some g c =
    let s = g.V.View.state c.args.view.now in
    HoldsIfHonest-weaker (λ (p : c.in_ok-refusal.refusal ≡ missing s c.args.start) sound. ap (answer_edges s c.args.direction c.args.start) (sym c.in-Some.is ∙ p)) c.in_ok-refusal.ensures

pub returns-in-None : goal.returns-in-None
returns-in-None g c =
    let s = g.V.View.state c.args.view.now in
    HoldsIfHonest-then g.met.V.Edges.kept_trans g.met.V.Edges.frame_trans c.in_ok-refusal.ensures c.genealogy_answer.ensures (λ k p q sound.
    let found : missing s c.args.start ≡ None = sym p ∙ c.in-None.is in
    let here = rw (g.met.V.View.kept_state _ _ k) at q in
    rw found (here sound))
