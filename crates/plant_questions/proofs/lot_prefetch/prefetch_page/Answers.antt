use Rattle.std.proofs.Common.{◌∙◌, refl, sym, ap}
use Rattle.std.proofs.lemmas.Bool.{false≢true}
use Rattle.std.proofs.lemmas.Result.{IfOk-from_err}
use Rattle.plant_trace.proofs.HoldsIfHonest.{HoldsIfHonest-weaker}
use Rattle.plant_questions.specs.{page_of, asked_for, counted, is_answered, rows_after, wants_page, with_page, is_after}
use Rattle.plant_questions.proofs.PrefetchSteps.{no_page, page_in, unanswered}
use Rattle.plant_questions.proofs.lot_prefetch.prefetch_page.Goals as goal

-- ---- no page is wanted

pub returns-then-not-wants_page-clause-valid : goal.returns-then-not-wants_page-clause-valid
returns-then-not-wants_page-clause-valid g c = record {
  always = g.met.V.Edges.frame_refl _;
  before = λ h. h;
  same = λ h. g.met.V.Edges.kept_refl _;
  holds = λ h sound prefetch. c.wants_page.ensures.valid _ (c.ask.ensures.valid _ prefetch);
}

pub returns-then-not-wants_page-clause-ahead : goal.returns-then-not-wants_page-clause-ahead
returns-then-not-wants_page-clause-ahead g c =
    let lot = c.args.lot.now in
    let old = c.args.prefetch.now in
    let none = ap (wants_page lot) (sym c.ask.ensures.asked) ∙ sym c.wants_page.ensures.wanted ∙ c.if-not-wants_page.true in
    let is = c.wants_page.ensures.counts ∙ ap (counted lot) c.ask.ensures.asked in
    record {
      always = g.met.V.Edges.frame_refl _;
      before = λ h. h;
      same = λ h. g.met.V.Edges.kept_refl _;
      holds = λ h sound. is ∙ no_page lot g.R.OfLot.lot_of (g.R.OfLot.all (g.V.View.state c.args.view.now)) old none;
    }

pub returns-then-not-wants_page-clause-unasked : goal.returns-then-not-wants_page-clause-unasked
returns-then-not-wants_page-clause-unasked g c = λ none. (refl, c.wants_page.ensures.counts ∙ ap (counted c.args.lot.now) c.ask.ensures.asked)

-- ---- a page is wanted

pub returns-in_err-page-clause-valid : goal.returns-in_err-page-clause-valid
returns-in_err-page-clause-valid g c = HoldsIfHonest-weaker (λ q sound prefetch. c.wants_page.ensures.valid _ (c.ask.ensures.valid _ prefetch)) c.in_err-page.ensures

pub returns-in_err-page-clause-ahead : goal.returns-in_err-page-clause-ahead
returns-in_err-page-clause-ahead g c = HoldsIfHonest-weaker (λ q sound. IfOk-from_err _ _ c.from_residual.ensures.0) c.in_err-page.ensures

pub returns-in_err-page-clause-unasked : goal.returns-in_err-page-clause-unasked
returns-in_err-page-clause-unasked g c = λ none.
    let wanted = ap (wants_page c.args.lot.now) (sym c.ask.ensures.asked) ∙ sym c.wants_page.ensures.wanted ∙ c.if-not-wants_page.false in
    absurd (false≢true (sym none ∙ wanted))

pub returns-in_err-page-clause-answered : goal.returns-in_err-page-clause-answered
returns-in_err-page-clause-answered g c = λ known.
    let lot = c.args.lot.now in
    let wanted = ap (wants_page lot) (sym c.ask.ensures.asked) ∙ sym c.wants_page.ensures.wanted ∙ c.if-not-wants_page.false in
    let is = c.wants_page.ensures.counts ∙ ap (counted lot) c.ask.ensures.asked in
    absurd (unanswered lot (asked_for lot c.args.prefetch.now) wanted (ap (is_answered lot) (sym is) ∙ known))

pub returns-clause-valid : goal.returns-clause-valid
returns-clause-valid g c =
    let s = g.V.View.state c.args.view.now in
    HoldsIfHonest-weaker (λ q sound prefetch. c.put.ensures.valid (g.R.OfLot.all s) (g.R.OfLot.rise s (λ r. is_after c.wants_page.new.self.last (g.R.OfLot.lot_of r)) sound) (q sound)) c.in_ok-page.ensures

pub returns-clause-ahead : goal.returns-clause-ahead
returns-clause-ahead g c =
    let lot = c.args.lot.now in
    let old = c.args.prefetch.now in
    let lot_of = g.R.OfLot.lot_of in
    let all = g.R.OfLot.all (g.V.View.state c.args.view.now) in
    let wanted = ap (wants_page lot) (sym c.ask.ensures.asked) ∙ sym c.wants_page.ensures.wanted ∙ c.if-not-wants_page.false in
    let is = c.wants_page.ensures.counts ∙ ap (counted lot) c.ask.ensures.asked in
    HoldsIfHonest-weaker (λ q sound.
    let page = q sound ∙ ap (λ a. page_of (rows_after lot_of a.last all)) is in
    c.put.ensures.read ∙ ap (with_page lot_of c.in_ok-page.page) is ∙ page_in lot lot_of all old wanted c.in_ok-page.page page) c.in_ok-page.ensures

pub returns-clause-unasked : goal.returns-clause-unasked
returns-clause-unasked g c = λ none.
    let wanted = ap (wants_page c.args.lot.now) (sym c.ask.ensures.asked) ∙ sym c.wants_page.ensures.wanted ∙ c.if-not-wants_page.false in
    absurd (false≢true (sym none ∙ wanted))
