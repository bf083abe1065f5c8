use Rattle.std.proofs.Common.{◌≡◌, ◌∙◌, Option, option_map, ap}
use Rattle.std.proofs.lemmas.Result.{IfOk-from_err}
use Rattle.plant_base.specs.{definition_at, Definition}
use Rattle.plant_trace.proofs.HoldsIfHonest.{HoldsIfHonest-then, HoldsIfHonest-weaker}
use Rattle.plant_view.specs.{is_blocked}
use Rattle.plant_answers_genealogy.specs.{lot_node, AreKnown, after_definition, after_lot}
use Rattle.plant_questions.specs.declared.genealogy.NodeAnswer.TheVariants as node
use Rattle.plant_answers_genealogy.proofs.edge_answers.lot_node.Goals as goal

pub returns : goal.returns
returns g c =
    let s = g.V.View.state c.args.view.now in
    let lot = c.args.lot.now in
    let Defined : Type 0 = AreKnown s c.args.known.now → (c.in_ok-definition.definition ≡ definition_at s lot.def) × AreKnown s c.known_definition.new.known × (c.known_definition.new.known ≡ after_definition s lot.def c.args.known.now) in
    let Recalled : Type 0 = c.in_ok-recalled.recalled ≡ is_blocked s lot.id in
    let looked_up = HoldsIfHonest-then {R = Defined × Recalled} g.met.V.Edges.kept_trans g.met.V.Edges.frame_trans c.in_ok-definition.ensures.found c.in_ok-recalled.ensures (λ k p q. (p, rw (g.met.V.View.kept_state _ _ k) at q)) in
    HoldsIfHonest-then g.met.V.Edges.kept_trans g.met.V.Edges.frame_trans looked_up c.in_ok-reported.ensures (λ k p q sound known.
    let here = rw (g.met.V.View.kept_state _ _ k) at q in
    let defined = p.0 known in
    let reported = here sound defined.1 in
    (c.node_of_lot.ensures s lot p.1 reported.0 ∙ ap (λ (o : Option Definition). option_map (λ d. node.Lot (lot_node s lot d)) o) defined.0, reported.1, reported.2 ∙ ap (after_lot s lot) defined.2))

pub returns-in_err-definition : goal.returns-in_err-definition
returns-in_err-definition g c = HoldsIfHonest-weaker (λ q sound known. (IfOk-from_err _ _ c.from_residual.ensures.0, (q known).1, IfOk-from_err _ _ c.from_residual.ensures.0)) c.in_err-definition.ensures.found

pub returns-in_err-recalled : goal.returns-in_err-recalled
returns-in_err-recalled g c = HoldsIfHonest-then g.met.V.Edges.kept_trans g.met.V.Edges.frame_trans c.in_ok-definition.ensures.found c.in_err-recalled.ensures (λ k p q sound known. (IfOk-from_err _ _ c.from_residual-in_err-recalled.ensures.0, (p known).1, IfOk-from_err _ _ c.from_residual-in_err-recalled.ensures.0))

pub returns-in_err-reported : goal.returns-in_err-reported
returns-in_err-reported g c =
    let s = g.V.View.state c.args.view.now in
    let Kept : Type 0 = AreKnown s c.args.known.now → AreKnown s c.known_definition.new.known in
    let looked_up = HoldsIfHonest-then {R = Kept} g.met.V.Edges.kept_trans g.met.V.Edges.frame_trans c.in_ok-definition.ensures.found c.in_ok-recalled.ensures (λ k p q known. (p known).1) in
    HoldsIfHonest-then g.met.V.Edges.kept_trans g.met.V.Edges.frame_trans looked_up c.in_err-reported.ensures (λ k p q sound known.
    let here = rw (g.met.V.View.kept_state _ _ k) at q in
    (IfOk-from_err _ _ c.from_residual-in_err-reported.ensures.0, (here sound (p known)).1, IfOk-from_err _ _ c.from_residual-in_err-reported.ensures.0))
