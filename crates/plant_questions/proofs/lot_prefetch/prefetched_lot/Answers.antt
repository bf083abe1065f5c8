use Rattle.std.proofs.Common.{◌∙◌, ap, slice_get}
use Rattle.std.proofs.lemmas.Bool.{false≢true}
use Rattle.std.proofs.lemmas.Result.{IfOk-from_err}
use Rattle.plant_base.specs.{same}
use Rattle.plant_trace.proofs.HoldsIfHonest.{HoldsIfHonest-then, HoldsIfHonest-weaker}
use Rattle.plant_questions.specs.{is_answered}
use Rattle.plant_questions.proofs.PrefetchSteps.{none_wanted, of_any}
use Rattle.plant_questions.proofs.FoundRows.{first_is}
use Rattle.plant_questions.proofs.lot_prefetch.prefetched_lot.Goals as goal

-- ---- no page could be read

pub returns-in_err-prefetch_page-clause-found : goal.returns-in_err-prefetch_page-clause-found
returns-in_err-prefetch_page-clause-found g c = HoldsIfHonest-weaker (λ q sound prefetch. (IfOk-from_err _ _ c.from_residual.ensures.0, q sound prefetch)) c.in_err-prefetch_page.ensures.valid

pub returns-in_err-prefetch_page-clause-ahead : goal.returns-in_err-prefetch_page-clause-ahead
returns-in_err-prefetch_page-clause-ahead g c = HoldsIfHonest-weaker (λ q sound. IfOk-from_err _ _ c.from_residual.ensures.0) c.in_err-prefetch_page.ensures.ahead

pub returns-in_err-prefetch_page-clause-unasked : goal.returns-in_err-prefetch_page-clause-unasked
returns-in_err-prefetch_page-clause-unasked g c = λ known. (c.in_err-prefetch_page.ensures.unasked (none_wanted c.args.id.now c.args.prefetch.now known)).0

pub returns-in_err-prefetch_page-clause-answered : goal.returns-in_err-prefetch_page-clause-answered
returns-in_err-prefetch_page-clause-answered g c = λ known. absurd (false≢true (c.in_err-prefetch_page.ensures.answered known))

-- ---- what was read answers the lot

pub returns-in-Some-clause-found : goal.returns-in-Some-clause-found
returns-in-Some-clause-found g c =
    let s = g.V.View.state c.args.view.now in
    HoldsIfHonest-weaker (λ q sound prefetch.
    let now = q sound prefetch in
    (c.first_of.ensures ∙ ap (λ l. slice_get l 0) (c.in-Some.ensures.rows s.lots now) ∙ first_is (λ r. same r.id c.args.id.now) s.lots, now)) c.in_ok-prefetch_page.ensures.valid

pub returns-in-Some-clause-unasked : goal.returns-in-Some-clause-unasked
returns-in-Some-clause-unasked g c = λ known. (c.in_ok-prefetch_page.ensures.unasked (none_wanted c.args.id.now c.args.prefetch.now known)).0

-- ---- it is looked up

pub returns-in-None-clause-found : goal.returns-in-None-clause-found
returns-in-None-clause-found g c = HoldsIfHonest-then g.met.V.Edges.kept_trans g.met.V.Edges.frame_trans c.in_ok-prefetch_page.ensures.valid c.lot.ensures (λ k p q sound prefetch. (rw (g.met.V.View.kept_state _ _ k) at q, p sound prefetch))

pub returns-in-None-clause-ahead : goal.returns-in-None-clause-ahead
returns-in-None-clause-ahead g c = HoldsIfHonest-then g.met.V.Edges.kept_trans g.met.V.Edges.frame_trans c.in_ok-prefetch_page.ensures.ahead c.lot.ensures (λ k p q sound. of_any c.lot.result (p sound))

pub returns-in-None-clause-unasked : goal.returns-in-None-clause-unasked
returns-in-None-clause-unasked g c = λ known.
    let lot = c.args.id.now in
    let kept = c.in_ok-prefetch_page.ensures.unasked (none_wanted lot c.args.prefetch.now known) in
    absurd (false≢true (c.in-None.ensures.answered ∙ ap (is_answered lot) kept.1 ∙ known))

pub returns-in-None-clause-answered : goal.returns-in-None-clause-answered
returns-in-None-clause-answered g c = λ known. absurd (false≢true (c.in-None.ensures.answered ∙ known))
