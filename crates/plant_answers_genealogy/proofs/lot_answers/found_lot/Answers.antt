use Rattle.std.proofs.lemmas.Result.{IfOk-from_err}
use Rattle.plant_trace.proofs.HoldsIfHonest.{HoldsIfHonest-then}
use Rattle.plant_answers_genealogy.proofs.lot_answers.found_lot.Goals as goal

pub returns : goal.returns
returns g c =
    let s = g.V.View.state c.args.view.now in
    HoldsIfHonest-then g.met.V.Edges.kept_trans g.met.V.Edges.frame_trans c.in_ok-held.ensures c.in_ok-sublots.ensures (λ k p q sound.
    let here = rw (g.met.V.View.kept_state _ _ k) at q in
    c.answer_of_lot.ensures s sound p (here sound))

pub returns-in_err-sublots : goal.returns-in_err-sublots
returns-in_err-sublots g c = HoldsIfHonest-then g.met.V.Edges.kept_trans g.met.V.Edges.frame_trans c.in_ok-held.ensures c.in_err-sublots.ensures (λ k p q sound. IfOk-from_err _ _ c.from_residual-in_err-sublots.ensures.0)
