-- The stock of a lot is no more than what one sublot may hold, as many times as a lot has sublots.
use Rattle.std.proofs.Common.{◌≡◌, ◌∙◌, ℕ, ◌+◌, ◌*◌, ◌≤◌, ◌<◌, ◌^◌, true, false, cond, List, [], ◌∷◌, filter, sum_by, refl, sym, ap, arith, inl, inr, nat_cmp, Less, Equal, Greater}
use Rattle.std.specs.List.{AllByRecursion}
use Rattle.std.specs.List.Sorted.{IsStrictlySortedBy}
use Rattle.std.specs.Cmp.{nat_cmp_is}
use Rattle.std.specs.Ordering.{ordering_then}
use Rattle.std.proofs.lemmas.Cmp.{tied_itself, nat_list_cmp_total}
use Rattle.std.proofs.lemmas.List.Sums.{sum_by-cons}
use Rattle.plant_base.specs.{greatest_amount, greatest_sublot, State, same, id_cmp, place_order, Place, Sublot}
use Rattle.plant_view.proofs.ListLemmas.{same_id, all_weaker, all_of, sum_map}
use Rattle.plant_view.specs.DecisionInvariant.{DecisionInvariant}
use Rattle.plant_view.specs.{sublot_row, sublots_of}
use Rattle.std.proofs.lemmas.Bool.{cases_order}
use Rattle.plant_answers_genealogy.proofs.BatchMovementsSuffice.{sum_filtered}

-- ---- numbers of one lot rise

below_by_order : (m n : ℕ) → nat_cmp m n ≡ Less → m < n
below_by_order m n e = elim (cases_order m n) [
  | inl same_number ↦ absurd (let is = nat_cmp_is m n Equal same_number in cc)
  | inr (inl less) ↦ less
  | inr (inr more) ↦ absurd (let is = nat_cmp_is m n Greater more in cc)
]

-- of two sublots of one lot the first has the lower number
number_below : (lot : List ℕ) (p q : Place) → same p.lot lot ≡ true → same q.lot lot ≡ true → place_order p q ≡ Less → p.number < q.number
number_below lot p q a b e =
    let one : p.lot ≡ q.lot = same_id p.lot lot a ∙ sym (same_id q.lot lot b) in
    let tie : id_cmp p.lot q.lot ≡ Equal = ap (id_cmp p.lot) (sym one) ∙ tied_itself nat_list_cmp_total p.lot in
    below_by_order p.number q.number (sym (ap (λ o. ordering_then o (nat_cmp p.number q.number)) tie) ∙ e)

pub next_number : (lot : List ℕ) (p q : Place) → same p.lot lot ≡ true → same q.lot lot ≡ true → place_order p q ≡ Less → p.number + 1 ≤ q.number
next_number lot p q a b e = let below = number_below lot p q a b e in omega (arith, below)

-- ---- the sum

module _ (lot : List ℕ) (f : Place → ℕ) (small : (p : Place) → f p ≤ greatest_amount) where
  abbrev of_lot : Place → ℕ
  of_lot p = cond (same p.lot lot) (f p) 0

  -- where the numbers begin at k, at most so many are left
  bounded_from : (k : ℕ) (ps : List Place) → k ≤ greatest_sublot + 1 → IsStrictlySortedBy place_order ps → AllByRecursion (λ p. p.number ≤ greatest_sublot) ps
      → AllByRecursion (λ p. same p.lot lot ≡ true → k ≤ p.number) ps → sum_by of_lot ps + greatest_amount * k ≤ greatest_amount * (greatest_sublot + 1)
  unfolding IsStrictlySortedBy
  bounded_from k [] within sorted numbers from = omega (arith, within)
  bounded_from k (p ∷ ps) within sorted numbers from =
      let step : cond (same p.lot lot) (f p) 0 + sum_by of_lot ps + greatest_amount * k ≤ greatest_amount * (greatest_sublot + 1) = elim (same p.lot lot) as (λ b. same p.lot lot ≡ b → cond b (f p) 0 + sum_by of_lot ps + greatest_amount * k ≤ greatest_amount * (greatest_sublot + 1)) [
        | true ↦ λ e.
            let later = all_weaker (λ (q : Place). place_order p q ≡ Less) (λ (q : Place). same q.lot lot ≡ true → p.number + 1 ≤ q.number) (λ q less g. next_number lot p q e g less) ps sorted.0 in
            let rest = bounded_from (p.number + 1) ps (omega (arith, numbers.0)) sorted.1 numbers.1 later in
            omega (arith, rest, small p, from.0 e)
        | false ↦ λ e. let rest = bounded_from k ps within sorted.1 numbers.1 from.1 in omega (arith, rest)
      ] refl in
      omega (arith, step, sum_by-cons of_lot p ps)

  pub bounded : (s : State) → DecisionInvariant s → sum_by of_lot s.places < 2 ^ 64
  bounded s sound =
      let bound = bounded_from 0 s.places (omega arith) sound.stock.places sound.stock.numbered (all_of (λ (p : Place). same p.lot lot ≡ true → 0 ≤ p.number) (λ p e. omega arith) s.places) in
      omega (arith, bound)

pub total_fits : (s : State) → DecisionInvariant s → (lot : List ℕ) → sum_by (λ r. r.stock) (sublots_of s lot) < 2 ^ 64
total_fits s sound lot =
    let here = filter (λ (p : Place). same p.lot lot) s.places in
    let stock_of = λ (p : Place). (sublot_row s.movements p).stock in
    let summed = sum_map (λ (r : Sublot). r.stock) (sublot_row s.movements) here ∙ sum_filtered stock_of (λ (p : Place). same p.lot lot) s.places in
    omega (arith, summed, bounded lot stock_of (λ p. omega (arith, sound.stock.small p.lot p.number)) s sound)
