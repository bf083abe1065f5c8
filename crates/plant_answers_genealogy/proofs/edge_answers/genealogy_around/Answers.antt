use Rattle.std.proofs.Common.{◌≡◌, ◌∙◌, filter_map}
use Rattle.std.proofs.lemmas.Result.{IfOk-from_err}
use Rattle.plant_trace.proofs.HoldsIfHonest.{HoldsIfHonest-then}
use Rattle.plant_view.specs.DecisionInvariant.{DecisionInvariant}
use Rattle.plant_answers_genealogy.specs.{nodes_around, node_answer, genealogy_around}
use Rattle.plant_answers_genealogy.proofs.GoodsAreReached.{around_lists}
use Rattle.plant_answers_genealogy.proofs.edge_answers.genealogy_around.Goals as goal

pub returns : goal.returns
returns g c =
    let s = g.V.View.state c.args.view.now in
    let direction = c.args.direction in
    let start = c.args.start in
    let Around : Type 0 = c.in_ok-around.around.items ≡ nodes_around s direction start in
    let Known : Type 0 = DecisionInvariant s → c.in_ok-nodes.nodes.items ≡ filter_map (node_answer s) (nodes_around s direction start) in
    let looked_up = HoldsIfHonest-then {R = Around × Known} g.met.V.Edges.kept_trans g.met.V.Edges.frame_trans c.in_ok-around.ensures c.in_ok-nodes.ensures (λ k p q.
    (p, rw (g.met.V.View.kept_state _ _ k, c.as_slice.ensures.value, p) at q)) in
    HoldsIfHonest-then g.met.V.Edges.kept_trans g.met.V.Edges.frame_trans looked_up c.in_ok-edges.ensures (λ k p q sound.
    let edges = rw (g.met.V.View.kept_state _ _ k, c.as_slice-2.ensures.value, p.0) at q in
    let known = c.new.ensures ∙ p.1 sound in
    let booked = c.new-2.ensures ∙ edges sound (around_lists s direction start).ascending in
    λ i. record (genealogy_around s direction start) { nodes = known i; edges = booked i })

pub returns-in_err-nodes : goal.returns-in_err-nodes
returns-in_err-nodes g c = HoldsIfHonest-then g.met.V.Edges.kept_trans g.met.V.Edges.frame_trans c.in_ok-around.ensures c.in_err-nodes.ensures (λ k p q sound. IfOk-from_err _ _ c.from_residual-in_err-nodes.ensures.0)

pub returns-in_err-edges : goal.returns-in_err-edges
returns-in_err-edges g c =
    let looked_up = HoldsIfHonest-then {R = Unit} g.met.V.Edges.kept_trans g.met.V.Edges.frame_trans c.in_ok-around.ensures c.in_ok-nodes.ensures (λ k p q. tt) in
    HoldsIfHonest-then g.met.V.Edges.kept_trans g.met.V.Edges.frame_trans looked_up c.in_err-edges.ensures (λ k p q sound. IfOk-from_err _ _ c.from_residual-in_err-edges.ensures.0)
