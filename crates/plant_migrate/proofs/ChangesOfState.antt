-- What the changes make of the tables of a state.
use Rattle.std.proofs.Common.{◌≡◌, ◌∙◌, inl, inr, refl, sym, ap, ℕ, zero, suc, ◌+◌, ◌≤◌, ◌==◌, nat_le, false, eqb-true, List, [], ◌∷◌, ◌++◌, map, Option, Some, None, option_map, option_and_then, arith, if◌then◌else◌, filter_map}
use Rattle.std.proofs.lemmas.Bool.{cases_Bool}
use Rattle.std.proofs.lemmas.Bool.Decides.{nat_tests}
use Rattle.std.specs.List.{cons_option}
use Rattle.plant_base.specs.{edge_order, State, newest_schema, put, EdgeRow, Movement, Recall, Receipt}
use Rattle.plant_view.specs.{edge_row_of, edges_among, marks, put_all, changed, changed_all, tables_of, IsWholeIn, position_of, RowChange}
use Rattle.plant_view.specs.TableRows.{Tables}
use Rattle.plant_view.specs.declared.change.RowChange.TheVariants as change
use Rattle.plant_tables.specs.{IsOlder}
use Rattle.plant_tables.proofs.EachSchema.{by_older}
use Rattle.plant_tables_columns.specs.{booked_of, BookedRow}
use Rattle.plant_tables_columns.proofs.MovementColumns.{movement_again}
use Rattle.plant_migrate.specs.{edge_change, edges_from, added_rows, migrated_once, migrated_by}

abbrev with_edges : Tables → List EdgeRow → Tables
with_edges t edges = record t { edges = edges }

edge_again : (m : Movement) → edge_change (booked_of m) ≡ option_map change.Edge (edge_row_of m)
edge_again m = ap (λ o. option_map change.Edge (option_and_then edge_row_of o)) (movement_again m)

edges_changed : (ms : List Movement) (c : RowChange) (t : Tables) → changed_all (filter_map edge_change (map booked_of ms) ++ c ∷ []) t ≡ changed c (with_edges t (put_all edge_order (filter_map edge_row_of ms) t.edges))
edges_changed [] c t = refl
edges_changed (m ∷ ms) c t = ap (λ o. changed_all (cons_option o (filter_map edge_change (map booked_of ms)) ++ c ∷ []) t) (edge_again m) ∙ one (edge_row_of m) (edges_changed ms c)
  where
    one : (o : Option EdgeRow) → ((u : Tables) → changed_all (filter_map edge_change (map booked_of ms) ++ c ∷ []) u ≡ changed c (with_edges u (put_all edge_order (filter_map edge_row_of ms) u.edges)))
        → changed_all (cons_option (option_map change.Edge o) (filter_map edge_change (map booked_of ms)) ++ c ∷ []) t ≡ changed c (with_edges t (put_all edge_order (cons_option o (filter_map edge_row_of ms)) t.edges))
    one None more = more t
    one (Some e) more = more (with_edges t (put edge_order e t.edges))

-- the bookings of a state
abbrev pub bookings : State → List BookedRow
bookings s = map booked_of s.movements

-- ---- one version

abbrev StateRises : State → ℕ → Type 0
StateRises s version = IsWholeIn version s → migrated_once version (position_of s) (filter_map edge_change (bookings s)) (tables_of version s) ≡ tables_of (version + 1) s

first_rises : (s : State) → StateRises s 1
first_rises s whole = edges_changed s.movements (change.Meta (record { schema = 2; position = position_of s })) (tables_of 1 s)

second_rises : (s : State) → StateRises s 2
second_rises s whole = ap (λ (rs : List Receipt). record (tables_of 3 s) { receipts = rs }) whole.0

-- where there are no recalls there are no marks
no_marks : (ms : List Movement) → marks [] (edges_among ms) ≡ []
unfolding marks
no_marks ms = refl

third_rises : (s : State) → StateRises s 3
third_rises s whole =
    let none : [] ≡ s.recalls = whole.1 in
    let unmarked : [] ≡ marks s.recalls (edges_among s.movements) = sym (no_marks s.movements) ∙ ap (λ (rs : List Recall). marks rs (edges_among s.movements)) none in
    λ i. record (tables_of 4 s) { recalls = none i; marks = unmarked i }

state_rises : (s : State) (version : ℕ) → IsOlder version → StateRises s version
state_rises s = by_older (StateRises s) (first_rises s) (second_rises s) (third_rises s)

-- ---- some versions

-- rows that a schema keeps from this one on, where one lacks none of them, and those after it
kept_on : {R : Type 0} (first version later : ℕ) (rs : List R) → version ≤ later → (if nat_le first version then rs else []) ≡ rs → (if nat_le first later then rs else []) ≡ rs
kept_on first version later rs low whole = elim (cases_Bool (nat_le first later)) [
  | inl keeps ↦ rw keeps refl
  | inr lacks ↦
      let below : nat_le first version ≡ false = grind (arith, nat_tests) in
      let none : [] ≡ rs = rw below at whole in
      rw lacks none
]

-- a schema that lacks no row of the state, and those after it
pub whole_on : (version later : ℕ) (s : State) → version ≤ later → IsWholeIn version s → IsWholeIn later s
whole_on version later s low whole = (kept_on 3 version later s.receipts low whole.0, kept_on 4 version later s.recalls low whole.1)

-- only the first version has edges added
same_added : (version n : ℕ) (booked : List BookedRow) → 1 ≤ version → added_rows (version + n) (edges_from version booked) ≡ added_rows (version + n) (filter_map edge_change booked)
same_added version n booked low = elim (cases_Bool (version + n == 1)) [
  | inl first ↦
      let sum : version + n ≡ 1 = eqb-true (version + n) 1 first in
      let one : version ≡ 1 = omega (arith, sum, low) in
      ap (added_rows (version + n)) (rw one refl)
  | inr later ↦ rw later refl
]

-- The tables of a state in a version are migrated to those in a later one.
pub state_migrated : (s : State) (version n : ℕ) → 1 ≤ version → version + n ≤ newest_schema → IsWholeIn version s
    → migrated_by n version (position_of s) (edges_from version (bookings s)) (tables_of version s) ≡ tables_of (version + n) s
state_migrated s version zero low high whole = let same : version ≡ version + 0 = omega arith in ap (λ k. tables_of k s) same
state_migrated s version (suc n) low high whole =
    let before = state_migrated s version n low (omega (arith, high)) whole in
    let older : IsOlder (version + n) = (omega (arith, low), omega (arith, high)) in
    let next : version + n + 1 ≡ version + suc n = omega arith in
    ap (λ (t : Tables). migrated_once (version + n) (position_of s) (edges_from version (bookings s)) t) before
    ∙ ap (λ cs. changed_all (cs ++ change.Meta (record { schema = version + n + 1; position = position_of s }) ∷ []) (tables_of (version + n) s)) (same_added version n (bookings s) low)
    ∙ state_rises s (version + n) older (whole_on version (version + n) s (omega arith) whole)
    ∙ ap (λ k. tables_of k s) next
