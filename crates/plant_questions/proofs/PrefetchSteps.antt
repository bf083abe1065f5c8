-- What is read ahead once a lot is asked for: whether a page is read, and what is then there.
use Rattle.std.proofs.Common.{◌≡◌, ◌∙◌, ℕ, Bool, true, false, not, cond, ◌&&◌, List, Ok, Err, IfOk, Result, sym, ap}
use Rattle.std.proofs.lemmas.Bool.{and_parts, false≢true}
use Rattle.plant_questions.specs.{page_of, asked_for, counted, is_answered, is_page_due, prefetched, rows_after, wants_page, with_page}
use Rattle.plant_questions.specs.declared.page.Page.{Page}
use Rattle.plant_questions.specs.declared.prefetch.ReadAhead.{ReadAhead}

-- what doesn't hang on the value holds of each
pub of_any : {T E P : Type 0} (r : Result T E) → P → IfOk r (λ _. P)
of_any (Ok x) p = p
of_any (Err e) p = tt

module _ {R : Type 0} (lot : List ℕ) where
  -- a lot that is answered wants no page
  pub none_wanted : (a : ReadAhead R) → is_answered lot a ≡ true → wants_page lot (asked_for lot a) ≡ false
  none_wanted a answered = ap (λ b. not b && is_page_due lot (asked_for lot a)) answered

  -- and one that wants a page isn't answered
  pub unanswered : (a : ReadAhead R) → wants_page lot a ≡ true → is_answered lot a ≡ true → ⊥
  unanswered a wanted answered = false≢true (sym (ap not answered) ∙ (and_parts (not (is_answered lot a)) (is_page_due lot a) wanted).0)

  module _ (lot_of : R → List ℕ) (all : List R) (old : ReadAhead R) where
    abbrev now : ReadAhead R
    now = counted lot (asked_for lot old)

    abbrev by : Bool → ReadAhead R
    by wanted = cond wanted (with_page lot_of (page_of (rows_after lot_of old.asked all)) now) now

    pub no_page : wants_page lot (asked_for lot old) ≡ false → now ≡ prefetched lot_of all lot old
    no_page none = sym (ap by none)

    pub page_in : wants_page lot (asked_for lot old) ≡ true → (page : Page R) → page ≡ page_of (rows_after lot_of old.asked all) → with_page lot_of page now ≡ prefetched lot_of all lot old
    page_in wanted page is = ap (λ p. with_page lot_of p now) is ∙ sym (ap by wanted)
