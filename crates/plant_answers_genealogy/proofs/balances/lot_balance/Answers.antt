use Rattle.std.proofs.Common.{◌≡◌, ◌∙◌, option_map, ap}
use Rattle.std.proofs.lemmas.Result.{IfOk-from_err}
use Rattle.plant_base.specs.{definition_at}
use Rattle.plant_trace.proofs.HoldsIfHonest.{HoldsIfHonest-then}
use Rattle.plant_view.specs.DecisionInvariant.{DecisionInvariant}
use Rattle.plant_answers_genealogy.specs.{lot_balance, standing_lot, AreKnown, after_definition, after_lot}
use Rattle.plant_answers_genealogy.proofs.balances.lot_balance.Goals as goal

pub returns : goal.returns
returns g c =
    let s = g.V.View.state c.args.view.now in
    let lot = c.args.lot.now in
    let Defined : Type 0 = AreKnown s c.args.known.now → (c.in_ok-definition.definition ≡ definition_at s lot.def) × AreKnown s c.known_definition.new.known × (c.known_definition.new.known ≡ after_definition s lot.def c.args.known.now) in
    let Standing : Type 0 = DecisionInvariant s → AreKnown s c.known_definition.new.known → (c.in_ok-standing.standing ≡ standing_lot s lot) × AreKnown s c.standing_lot.new.known × (c.standing_lot.new.known ≡ after_lot s lot c.known_definition.new.known) in
    let looked_up = HoldsIfHonest-then {R = Defined × Standing} g.met.V.Edges.kept_trans g.met.V.Edges.frame_trans c.in_ok-definition.ensures.found c.in_ok-standing.ensures (λ k p q. (p, rw (g.met.V.View.kept_state _ _ k) at q)) in
    HoldsIfHonest-then g.met.V.Edges.kept_trans g.met.V.Edges.frame_trans looked_up c.in_ok-flows.ensures (λ k p q sound known.
    let here = rw (g.met.V.View.kept_state _ _ k) at q in
    let defined = p.0 known in
    let standing = p.1 sound defined.1 in
    let flows = here sound in
    let unit = c.unit_of.ensures ∙ ap (option_map (λ d. d.unit)) defined.0 in
    (λ i. record (lot_balance s lot) { standing = standing.0 i; unit = unit i; flows = flows i }, standing.1, standing.2 ∙ ap (after_lot s lot) defined.2))

pub returns-in_err-flows : goal.returns-in_err-flows
returns-in_err-flows g c =
    let s = g.V.View.state c.args.view.now in
    let lot = c.args.lot.now in
    let Kept : Type 0 = DecisionInvariant s → AreKnown s c.args.known.now → AreKnown s c.standing_lot.new.known in
    let looked_up = HoldsIfHonest-then {R = Kept} g.met.V.Edges.kept_trans g.met.V.Edges.frame_trans c.in_ok-definition.ensures.found c.in_ok-standing.ensures (λ k p q sound known.
    let here = rw (g.met.V.View.kept_state _ _ k) at q in
    (here sound (p known).1).1) in
    HoldsIfHonest-then g.met.V.Edges.kept_trans g.met.V.Edges.frame_trans looked_up c.in_err-flows.ensures (λ k p q sound known. (IfOk-from_err _ _ c.from_residual-in_err-flows.ensures.0, p sound known, IfOk-from_err _ _ c.from_residual-in_err-flows.ensures.0))
