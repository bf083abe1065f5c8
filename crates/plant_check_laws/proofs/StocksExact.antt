-- The rule on stocks, and what follows of each sublot: no more was taken from it than it was given, and never more than an amount.
use Rattle.std.proofs.Common.{◌≡◌, ◌∙◌, ℕ, suc, ◌+◌, ◌-◌, ◌≤◌, Bool, true, false, List, [], ◌∷◌, map, filter, Option, Some, None, is_some, refl, sym, ap, subst, arith, zero, ◌&&◌, ◌==◌, nat_le, Decides, leb-true}
use Rattle.std.specs.List.{AllByRecursion}
use Rattle.std.proofs.lemmas.Bool.{false≢true}
use Rattle.plant_base.specs.{greatest_amount, State, same, place_at, Movement, Place, Sublot}
use Rattle.plant_view.proofs.ListLemmas.{found_passes, found_keeps, same_key, all_weaker, all_two, none_left, all_mapped, all_unmapped, all_filtered, and_right}
use Rattle.plant_stock.specs.{goes_to, comes_from, is_sublot_key, entered, left, entries}
use Rattle.plant_view.specs.{IsThere, sublot_row, place_of_row}
use Rattle.plant_invariant.specs.{IsDivision, IsBorn, HasMovementValues}
use Rattle.plant_tables_columns.specs.{booked_of}
use Rattle.plant_check_rules.specs.{total_booked, has_right_stock, are_stocks}
use Rattle.plant_check_rules.proofs.BookedRowsMove.{amount_entered, amount_left, total_entered, total_left}
use Rattle.plant_check_laws.proofs.RowsMadeOfRows.{joined_again}
use Rattle.plant_check_laws.proofs.ExactTests.{equal_exact, in_words, all_exact}
use Rattle.plant_check_laws.proofs.LotsExact.{IsSmall}

-- the stock is what entered the sublot less what left it
abbrev pub IsStocked : List Movement → Sublot → Type 0
IsStocked ms s = s.stock + left ms s.lot s.number ≡ entered ms s.lot s.number

stock_exact : (ms : List Movement) (s : Sublot) → Decides (has_right_stock (map booked_of ms) s) (IsStocked ms s)
unfolding has_right_stock
stock_exact ms s =
    let gone = ap (λ n. s.stock + n) (total_left ms s.lot s.number) in
    let come = total_entered ms s.lot s.number in
    in_words (equal_exact _ _) (λ e. sym gone ∙ e ∙ come) (λ e. gone ∙ e ∙ sym come)

pub stocks_exact : (ms : List Movement) (sublots : List Sublot) → Decides (are_stocks (map booked_of ms) sublots) (AllByRecursion (IsStocked ms) sublots)
stocks_exact ms = all_exact (has_right_stock (map booked_of ms)) (IsStocked ms) (stock_exact ms)

-- ---- of the sublots of the state of rows, and of those that aren't there

module _ (s : State) (sublots : List Sublot) where
  abbrev t : State
  t = record s { places = map place_of_row sublots }

  module _ (named : AllByRecursion (λ (m : Movement). IsThere t (goes_to m.kind m.lot m.sub) × IsThere t (comes_from m.kind m.lot m.sub)) t.movements) where
    module _ (lot : List ℕ) (number : ℕ) (none : is_some (place_at t lot number) ≡ false) where
      not_there : (k : Option (List ℕ × ℕ)) → IsThere t k → (b : Bool) → is_sublot_key k lot number ≡ b → b ≡ false
      not_there k there false h = refl
      not_there None there true h = absurd (false≢true h)
      not_there (Some k) there true h =
          let key = same_key k.0 lot k.1 number h in
          absurd (false≢true (sym none ∙ (λ i. is_some (place_at t (sym key.0 i) (sym key.1 i))) ∙ there))

      none_at : (end_of : Movement → Option (List ℕ × ℕ)) → AllByRecursion (λ m. IsThere t (end_of m)) t.movements → filter (λ m. is_sublot_key (end_of m) lot number) t.movements ≡ []
      none_at end_of there = none_left _ t.movements (all_weaker (λ (m : Movement). IsThere t (end_of m)) _ (λ m h. not_there (end_of m) h (is_sublot_key (end_of m) lot number) refl) t.movements there)

      never_entered : entered t.movements lot number ≡ 0
      never_entered = sym (amount_entered t.movements lot number) ∙ ap (λ (es : List Movement). total_booked (map booked_of es)) (none_at (λ m. goes_to m.kind m.lot m.sub) (all_weaker _ _ (λ (m : Movement) there. there.0) t.movements named))

      never_left : left t.movements lot number ≡ 0
      never_left = sym (amount_left t.movements lot number) ∙ ap (λ (es : List Movement). total_booked (map booked_of es)) (none_at (λ m. comes_from m.kind m.lot m.sub) (all_weaker _ _ (λ (m : Movement) there. there.1) t.movements named))

    -- what holds of each sublot that is there, and where none is, holds of all keys
    of_each_key : (P : List ℕ → ℕ → Type 0) → AllByRecursion (λ (p : Place). P p.lot p.number) t.places → ((lot : List ℕ) (number : ℕ) → is_some (place_at t lot number) ≡ false → P lot number) → (lot : List ℕ) (number : ℕ) → P lot number
    of_each_key P each none lot number = by (place_at t lot number) refl
      where
        by : (o : Option Place) → place_at t lot number ≡ o → P lot number
        by None e = none lot number (ap is_some e)
        by (Some p) e =
            let test = λ (p : Place). same p.lot lot && p.number == number in
            let key = same_key p.lot lot p.number number (found_passes test t.places p e) in
            subst (λ (k : List ℕ × ℕ). P k.0 k.1) (λ i. (key.0 i, key.1 i)) (found_keeps (λ (p : Place). P p.lot p.number) test t.places p each e)

    pub all_covered : AllByRecursion (IsStocked t.movements) sublots → (lot : List ℕ) (number : ℕ) → left t.movements lot number ≤ entered t.movements lot number
    all_covered stocked =
        let Covered : Place → Type 0 = λ p. left t.movements p.lot p.number ≤ entered t.movements p.lot p.number in
        let each = all_mapped Covered place_of_row sublots (all_weaker (IsStocked t.movements) (λ s. Covered (place_of_row s)) (λ s own. omega (arith, own)) sublots stocked) in
        of_each_key (λ lot number. left t.movements lot number ≤ entered t.movements lot number) each
        (λ lot number none. let gone = never_left lot number none in omega (arith, gone))

    single : (es : List Movement) → IsDivision es → AllByRecursion HasMovementValues es → total_booked (map booked_of es) ≤ greatest_amount
    single [] d v = absurd d
    single (m ∷ []) d v = let small = leb-true m.amount greatest_amount (and_right (nat_le 1 m.amount) (nat_le m.amount greatest_amount) v.0.amount) in omega (arith, small)
    single (m ∷ n ∷ es) d v = absurd d

    pub all_small : AllByRecursion (IsBorn t.movements) (map place_of_row sublots) → AllByRecursion (IsSmall t.movements) sublots → AllByRecursion HasMovementValues t.movements → (lot : List ℕ) (number : ℕ) → entered t.movements lot number ≤ greatest_amount
    all_small born small values =
        let Small : Place → Type 0 = λ p. entered t.movements p.lot p.number ≤ greatest_amount in
        let each = all_mapped Small place_of_row sublots (all_two (λ s. IsBorn t.movements (place_of_row s)) (IsSmall t.movements) (λ s. Small (place_of_row s)) each_small sublots (all_unmapped (IsBorn t.movements) place_of_row sublots born) small) in
        of_each_key (λ lot number. entered t.movements lot number ≤ greatest_amount) each
        (λ lot number none. subst (λ n. n ≤ greatest_amount) (sym (never_entered lot number none)) (omega arith))
      where
        each_small : (s : Sublot) → IsBorn t.movements (place_of_row s) → IsSmall t.movements s → entered t.movements s.lot s.number ≤ greatest_amount
        each_small s born small = subst (λ n. n ≤ greatest_amount) (amount_entered t.movements s.lot s.number) (by s.number refl)
          where
            by : (n : ℕ) → s.number ≡ n → total_booked (map booked_of (entries t.movements s.lot s.number)) ≤ greatest_amount
            by zero e = small e
            by (suc n) e =
                single (entries t.movements s.lot s.number) (born.divided (omega (arith, e)))
                (all_filtered HasMovementValues (λ m. is_sublot_key (goes_to m.kind m.lot m.sub) s.lot s.number) t.movements values)

-- the kept stocks are those that the movements give
pub same_sublots : (ms : List Movement) (sublots : List Sublot) → AllByRecursion (IsStocked ms) sublots → map (sublot_row ms) (map place_of_row sublots) ≡ sublots
same_sublots ms sublots stocked = joined_again place_of_row (sublot_row ms) sublots (all_weaker (IsStocked ms) _ (λ (s : Sublot) own.
    let kept : entered ms s.lot s.number - left ms s.lot s.number ≡ s.stock = omega (arith, own) in
    λ i. record s { stock = kept i }) sublots stocked)
