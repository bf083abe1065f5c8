-- The rule on lots: their definitions are there, their sublots are numbered from 0 on, and each came to be with its lot or by a division.
use Rattle.std.proofs.Common.{◌≡◌, ◌∙◌, ℕ, ◌≤◌, true, false, List, [], ◌∷◌, length, map, filter, find, is_some, refl, sym, ap, eqb-true, eq-eqb, arith, ◌==◌, Decides}
use Rattle.std.specs.List.{AllByRecursion}
use Rattle.std.proofs.lemmas.Bool.{false≢true}
use Rattle.std.proofs.lemmas.Bool.Decides.{nat_tests}
use Rattle.std.proofs.lemmas.Simd.{map-map}
use Rattle.plant_base.specs.{greatest_amount, same, Definition, Hold, Lot, Movement, MovementKind, Place, Sublot}
use Rattle.plant_base.specs.declared.rows.MovementKind.TheVariants as kind
use Rattle.plant_stock.specs.{is_division, entries}
use Rattle.plant_view.specs.{is_defined, place_of_row}
use Rattle.plant_view.proofs.ListLemmas.{all_mapped, all_unmapped}
use Rattle.plant_invariant.specs.{numbers_among, AreFromZero, are_one_birth, IsBirth, IsDivision, IsBorn, AreBorn}
use Rattle.plant_tables_columns.specs.{code_of, booked_of}
use Rattle.plant_check_rules.specs.{total_booked, are_from_zero, sublots_among, is_right_lot, is_division_code, have_same_kind_code, is_of_one_birth, is_one_birth, is_one_division, is_born, is_lot_among, is_right_sublot, are_lots}
use Rattle.plant_check_rules.proofs.BookedRowsMove.{filter_mapped, entries_booked}
use Rattle.plant_check_laws.proofs.ExactTests.{passing, le_exact, equal_exact, both, chosen, in_words, by_test, all_two_exact, all_exact, any_exact, all_mapped_exact, all_apart, all_joined}
use Rattle.plant_check_laws.proofs.NumberedRows.{counted_exact}

-- ---- numbers of sublots

numbers_same : (sublots : List Sublot) (lot : List ℕ) → map (λ s. s.number) (sublots_among sublots lot) ≡ numbers_among (map place_of_row sublots) lot
numbers_same sublots lot =
    sym (map-map (λ (p : Place). p.number) place_of_row (filter (λ (s : Sublot). same s.lot lot) sublots))
    ∙ ap (map (λ (p : Place). p.number)) (sym (filter_mapped (λ (p : Place). same p.lot lot) place_of_row sublots))

from_zero_exact : (numbers : List ℕ) → Decides (are_from_zero numbers) (AreFromZero numbers)
from_zero_exact numbers = both (le_exact 1 (length numbers)) (counted_exact 0 numbers)

-- ---- births

-- kinds of one birth are booked as one sort
births_alike : (a b : MovementKind) → have_same_kind_code (code_of a) (code_of b) ≡ are_one_birth a b
births_alike kind.Received kind.Received = refl
births_alike (kind.Produced a) (kind.Produced b) = refl
births_alike (kind.Split a) (kind.Split b) = refl
births_alike (kind.Merged a) (kind.Merged b) = refl
births_alike _ _ = refl

-- and a division as one
divisions_alike : (k : MovementKind) → is_division_code (code_of k) ≡ is_division k
divisions_alike (kind.Divided to) = refl
divisions_alike _ = refl

birth_exact : (ms : List Movement) → Decides (is_one_birth (map booked_of ms)) (IsBirth ms × (total_booked (map booked_of ms) ≤ greatest_amount))
birth_exact [] = ((λ e. absurd (false≢true e)), (λ b. absurd b.0))
birth_exact (m ∷ ms) = both
    (all_mapped_exact (is_of_one_birth (booked_of m)) booked_of (λ (x : Movement). (x.seq ≡ m.seq) × (are_one_birth m.kind x.kind ≡ true))
    (λ x. both (equal_exact x.seq m.seq) (by_test (births_alike m.kind x.kind) (passing (are_one_birth m.kind x.kind)))) (m ∷ ms))
    (le_exact (total_booked (map booked_of (m ∷ ms))) greatest_amount)

division_exact : (ms : List Movement) → Decides (is_one_division (map booked_of ms)) (IsDivision ms)
division_exact [] = ((λ e. absurd (false≢true e)), (λ d. absurd d))
division_exact (m ∷ []) = by_test (divisions_alike m.kind) (passing (is_division m.kind))
division_exact (m ∷ n ∷ ms) = ((λ e. absurd (false≢true e)), (λ d. absurd d))

-- sublot 0 was given no more than an amount
abbrev pub IsSmall : List Movement → Sublot → Type 0
IsSmall ms s = s.number ≡ 0 → total_booked (map booked_of (entries ms s.lot s.number)) ≤ greatest_amount

not_zero : (n : ℕ) → 1 ≤ n → (n == 0) ≡ false
not_zero n l = grind (arith, nat_tests)

above_zero : (n : ℕ) → (n == 0) ≡ false → 1 ≤ n
above_zero n e = grind (arith, nat_tests)

born_exact : (ms : List Movement) (s : Sublot) → Decides (is_born (map booked_of ms) s) (IsBorn ms (place_of_row s) × IsSmall ms s)
born_exact ms s =
    let own = entries ms s.lot s.number in
    let booked = entries_booked ms s.lot s.number in
    in_words (chosen (s.number == 0) (by_test (ap is_one_birth booked) (birth_exact own)) (by_test (ap is_one_division booked) (division_exact own)))
    (λ c. (record { whole = λ z. (c.0 (eq-eqb s.number 0 z)).0; divided = λ l. c.1 (not_zero s.number l) }, (λ z. (c.0 (eq-eqb s.number 0 z)).1)))
    (λ b. ((λ t. let z = eqb-true s.number 0 t in (b.0.whole z, b.1 z)), (λ f. b.0.divided (above_zero s.number f))))

-- ---- all of it

-- what the rule says of lots, sublots and holds
pub record AreRightLots (definitions : List Definition) (lots : List Lot) (sublots : List Sublot) (holds : List Hold) (ms : List Movement) : Type 0 where
  pub defined : AllByRecursion (λ l. is_defined definitions l.def ≡ true) lots
  pub housed : AllByRecursion (λ p. is_some (find (λ l. same l.id p.lot) lots) ≡ true) (map place_of_row sublots)
  pub placed : AllByRecursion (λ h. is_some (find (λ l. same l.id h.lot) lots) ≡ true) holds
  pub births : AreBorn lots (map place_of_row sublots) ms
  pub small : AllByRecursion (IsSmall ms) sublots

module _ (definitions : List Definition) (lots : List Lot) (sublots : List Sublot) (holds : List Hold) (ms : List Movement) where
  abbrev IsHoused : List ℕ → Type 0
  IsHoused lot = is_some (find (λ (l : Lot). same l.id lot) lots) ≡ true

  lot_there : (lot : List ℕ) → Decides (is_lot_among lots lot) (IsHoused lot)
  lot_there lot = any_exact (λ (l : Lot). same l.id lot) lots

  lot_exact : (l : Lot) → Decides (is_right_lot definitions sublots l) ((is_defined definitions l.def ≡ true) × AreFromZero (numbers_among (map place_of_row sublots) l.id))
  unfolding is_right_lot
  lot_exact l = both (passing (is_defined definitions l.def)) (by_test (ap are_from_zero (numbers_same sublots l.id)) (from_zero_exact (numbers_among (map place_of_row sublots) l.id)))

  sublot_exact : (s : Sublot) → Decides (is_right_sublot lots (map booked_of ms) s) (IsHoused s.lot × (IsBorn ms (place_of_row s) × IsSmall ms s))
  unfolding is_right_sublot
  sublot_exact s = both (lot_there s.lot) (born_exact ms s)

  pub lots_exact : Decides (are_lots definitions lots sublots holds (map booked_of ms)) (AreRightLots definitions lots sublots holds ms)
  lots_exact =
      let right = all_two_exact (is_right_lot definitions sublots) (λ l. is_defined definitions l.def ≡ true) (λ l. AreFromZero (numbers_among (map place_of_row sublots) l.id)) lot_exact lots in
      let in_lots = all_two_exact (is_right_sublot lots (map booked_of ms)) (λ s. IsHoused s.lot) (λ s. IsBorn ms (place_of_row s) × IsSmall ms s) sublot_exact sublots in
      let held = all_exact (λ (h : Hold). is_lot_among lots h.lot) (λ h. IsHoused h.lot) (λ h. lot_there h.lot) holds in
      let born = λ (s : Sublot). IsBorn ms (place_of_row s) in
      let housed = λ (q : Place). IsHoused q.lot in
      in_words (both right (both in_lots held))
      (λ p. let births = all_apart born (IsSmall ms) sublots p.1.0.1 in record {
        defined = p.0.0;
        housed = all_mapped housed place_of_row sublots p.1.0.0;
        placed = p.1.1;
        births = record { numbered = p.0.1; each = all_mapped (IsBorn ms) place_of_row sublots births.0 };
        small = births.1;
      })
      (λ a. (
        (a.defined, a.births.numbered),
        ((all_unmapped housed place_of_row sublots a.housed, all_joined born (IsSmall ms) sublots (all_unmapped (IsBorn ms) place_of_row sublots a.births.each) a.small), a.placed),
      ))
