use Rattle.std.proofs.lemmas.Result.{IfOk-from_err}
use Rattle.plant_trace.proofs.HoldsIfHonest.{HoldsIfHonest-then, HoldsIfHonest-weaker}
use Rattle.plant_answers_genealogy.proofs.PairOfHonestFacts.{both_hold}
use Rattle.plant_answers_genealogy.proofs.known_lots.known_lot.Goals as goal

pub returns : goal.returns
returns g c =
    let s = g.V.View.state c.args.view.now in
    HoldsIfHonest-then g.met.V.Edges.kept_trans g.met.V.Edges.frame_trans (both_hold c.in_ok-held.ensures.found c.in_ok-held.ensures.ahead) (both_hold c.in_ok-sublots.ensures.found c.in_ok-sublots.ensures.ahead) (λ k p q sound known.
    let here = rw (g.met.V.View.kept_state _ _ k) at q in
    let held = p.0 sound known.holds in
    let rows = here.0 sound known.sublots in
    let holds_are = p.1 sound in
    let sublots_are = here.1 sound in
    (c.answer_of_lot.ensures s sound held.0 rows.0, record { lots = known.lots; sublots = rows.1; holds = held.1; definition = known.definition }, λ i. record c.args.known.now { sublots = sublots_are i; holds = holds_are i }))

pub returns-in_err-held : goal.returns-in_err-held
returns-in_err-held g c = HoldsIfHonest-weaker (λ q sound known.
    let held = q sound known.holds in
    (IfOk-from_err _ _ c.from_residual.ensures.0, record { lots = known.lots; sublots = known.sublots; holds = held.1; definition = known.definition }, IfOk-from_err _ _ c.from_residual.ensures.0)) c.in_err-held.ensures.found

pub returns-in_err-sublots : goal.returns-in_err-sublots
returns-in_err-sublots g c =
    HoldsIfHonest-then g.met.V.Edges.kept_trans g.met.V.Edges.frame_trans c.in_ok-held.ensures.found c.in_err-sublots.ensures.found (λ k p q sound known.
    let here = rw (g.met.V.View.kept_state _ _ k) at q in
    let held = p sound known.holds in
    let rows = here sound known.sublots in
    (IfOk-from_err _ _ c.from_residual-in_err-sublots.ensures.0, record { lots = known.lots; sublots = rows.1; holds = held.1; definition = known.definition }, IfOk-from_err _ _ c.from_residual-in_err-sublots.ensures.0))
