-- The rule on numbers: they were given, each command has its own, and the movements of each number are the lines of one booking.
use Rattle.std.proofs.Common.{◌≡◌, ◌∙◌, ℕ, ◌+◌, ◌<◌, ◌≤◌, Bool, true, false, cond, not, nat_lt, List, [], ◌∷◌, length, map, filter, Option, Some, None, refl, sym, ap, subst, eqb-true, eq-eqb, arith, ◌&&◌, ◌||◌, ◌==◌, Decides, nat_cmp, Ordering, Less}
use Rattle.std.specs.List.{AllByRecursion, list_all}
use Rattle.std.specs.List.Sorted.{IsStrictlySortedBy}
use Rattle.std.specs.Ordering.{ordering_then}
use Rattle.std.proofs.Math.Bool.{and_comm}
use Rattle.std.proofs.lemmas.Bool.{false≢true, eqb-false, or_right}
use Rattle.std.proofs.lemmas.Bool.Decides.{nat_tests}
use Rattle.std.proofs.lemmas.List.Sums.{length-filter, count_by-le-length}
use Rattle.plant_base.specs.{event_order, movement_order, BatchEvent, Movement, MovementKind}
use Rattle.plant_base.specs.declared.rows.MovementKind.TheVariants as kind
use Rattle.plant_view.proofs.ListLemmas.{same_id, all_weaker, none_left, all_of, all_filtered, filtered_passes, and_left, and_right}
use Rattle.plant_stock.specs.{goes_to, comes_from, is_sublot_key, entries, are_one_merge, is_one_source, greatest_parts}
use Rattle.plant_rules_production.proofs.ReleaseRows.{filter_both}
use Rattle.plant_invariant.specs.{AreCounted, booked, AreDistinct, IsBooking, IsEnteredBefore, IsNumbered}
use Rattle.plant_invariant.proofs.AppendKeepsOrder.{numbers_differ, all_left}
use Rattle.plant_requirements.specs.{are_distinct, is_merged, parts_of, are_parts, is_of_right_merge, is_given, is_next_part, is_next_line, are_lines, is_apart, is_entered_before, has_right_number, are_numbers}
use Rattle.plant_check_laws.proofs.ExactTests.{le_exact, lt_exact, equal_exact, passing, both, in_words, all_exact, all_apart, all_joined, none_exact, of_passing}
use Rattle.plant_check_laws.proofs.ReceiptsExact.{given_exact}

-- ---- parts of one merge

one_merge : (a b : MovementKind) → are_one_merge a b ≡ true → (to : List ℕ) × (a ≡ kind.Merged to) × (b ≡ kind.Merged to)
one_merge (kind.Merged a) (kind.Merged b) e = (a, refl, ap kind.Merged (sym (same_id a b e)))
one_merge a b e = absurd (false≢true e)

-- parts of one merge are so with the same others
merges_alike : (a b c : MovementKind) → are_one_merge a b ≡ true → are_one_merge a c ≡ are_one_merge b c
merges_alike a b c e = let m = one_merge a b e in ap (λ k. are_one_merge k c) (m.1 ∙ sym m.2)

distinct_exact : (ms : List Movement) → Decides (are_distinct ms) (AreDistinct ms)
distinct_exact [] = ((λ e. tt), (λ d. refl))
distinct_exact (m ∷ ms) = both (none_exact (is_one_source m) ms) (distinct_exact ms)

-- ---- lines of bookings

-- numbered from k on, and parts of a merge like this
abbrev Follow : ℕ → MovementKind → List Movement → Type 0
Follow k first ms = AreCounted k (map (λ m. m.line) ms) × AllByRecursion (λ m. are_one_merge first m.kind ≡ true) ms

-- nothing, or line 1 and what follows it
abbrev AreLines : List Movement → Type 0
AreLines [] = Unit {0}
AreLines (m ∷ ms) = (m.line ≡ 1) × Follow 2 m.kind ms

-- a part of a merge that follows another is followed by the same parts
follow_alike : (k : ℕ) (a b : MovementKind) (ms : List Movement) → are_one_merge a b ≡ true → Follow k a ms ≡ Follow k b ms
follow_alike k a b ms e = λ i. AreCounted k (map (λ m. m.line) ms) × AllByRecursion (λ m. merges_alike a b m.kind e i ≡ true) ms

number_rises_by : (m n : ℕ) (rest o : Ordering) → nat_cmp m n ≡ o → ordering_then o rest ≡ Less → m ≤ n
number_rises_by m n rest o e less = grind (arith, nat_tests)

-- numbers don't fall where movements rise by their order
number_rises : (a b : Movement) → movement_order a b ≡ Less → a.seq ≤ b.seq
number_rises a b less = number_rises_by a.seq b.seq (nat_cmp a.line b.line) (nat_cmp a.seq b.seq) refl less

-- the booking of a number, with one more movement before the others
booked_at : (m : Movement) (ms : List Movement) (number : ℕ) (b : Bool) → (m.seq == number) ≡ b → booked (m ∷ ms) number ≡ cond b (m ∷ booked ms number) (booked ms number)
booked_at m ms number b e = ap (λ b. cond b (m ∷ booked ms number) (booked ms number)) e

-- what goes on from a movement: the rest of its booking, and then whole bookings
record GoOn (before : Movement) (ms : List Movement) : Type 0 where
  rest : Follow (before.line + 1) before.kind (booked ms before.seq)
  others : (number : ℕ) → (before.seq == number) ≡ false → AreLines (booked ms number)

module _ (m : Movement) (ms : List Movement) (above : AllByRecursion (λ x. m.seq ≤ x.seq) ms) where
  -- line 1 and what goes on from it are the whole bookings of all numbers
  opens : (m.line ≡ 1) × GoOn m ms → (number : ℕ) → AreLines (booked (m ∷ ms) number)
  opens p number = by (m.seq == number) refl
    where
      by : (b : Bool) → (m.seq == number) ≡ b → AreLines (booked (m ∷ ms) number)
      by true e = subst AreLines (sym (booked_at m ms number true e)) (p.0, subst (λ (k : ℕ × ℕ). Follow (k.0 + 1) m.kind (booked ms k.1)) (λ i. (p.0 i, eqb-true m.seq number e i)) p.1.rest)
      by false e = subst AreLines (sym (booked_at m ms number false e)) (p.1.others number e)

  opened : ((number : ℕ) → AreLines (booked (m ∷ ms) number)) → (m.line ≡ 1) × GoOn m ms
  opened whole =
      let own : AreLines (m ∷ booked ms m.seq) = subst AreLines (booked_at m ms m.seq true (eq-eqb m.seq m.seq refl)) (whole m.seq) in
      (own.0, record { rest = subst (λ k. Follow (k + 1) m.kind (booked ms m.seq)) (sym own.0) own.1; others = λ number e. subst AreLines (booked_at m ms number false e) (whole number) })

  module _ (before : Movement) (low : before.seq ≤ m.seq) where
    -- a movement of the same number is the next part of the merge
    part_exact : before.seq ≡ m.seq → Decides (are_lines (Some m) ms) (GoOn m ms) → Decides (is_next_part before m && are_lines (Some m) ms) (GoOn before (m ∷ ms))
    part_exact own more = in_words (both (both (equal_exact m.line (before.line + 1)) (passing (are_one_merge before.kind m.kind))) more)
        (λ p. record {
          rest = subst (Follow (before.line + 1) before.kind) (sym at) ((p.0.0, (goes p.0.0 p.0.1 p.1.rest).0), (p.0.1, (goes p.0.0 p.0.1 p.1.rest).1));
          others = λ number e. subst AreLines (sym (past number e)) (p.1.others number (ap (λ n. n == number) (sym own) ∙ e));
        })
        (λ g. let here = subst (Follow (before.line + 1) before.kind) at g.rest in (
          (here.0.0, here.1.0),
          record { rest = comes here.0.0 here.1.0 (here.0.1, here.1.1); others = λ number e. let apart = ap (λ n. n == number) own ∙ e in subst AreLines (past number apart) (g.others number apart) },
        ))
      where
        at : booked (m ∷ ms) before.seq ≡ m ∷ booked ms before.seq
        at = booked_at m ms before.seq true (eq-eqb m.seq before.seq (sym own))

        past : (number : ℕ) → (before.seq == number) ≡ false → booked (m ∷ ms) number ≡ booked ms number
        past number e = booked_at m ms number false (ap (λ n. n == number) (sym own) ∙ e)

        alike : m.line ≡ before.line + 1 → are_one_merge before.kind m.kind ≡ true → Follow (before.line + 1 + 1) before.kind (booked ms before.seq) ≡ Follow (m.line + 1) m.kind (booked ms m.seq)
        alike line merge = follow_alike (before.line + 1 + 1) before.kind m.kind (booked ms before.seq) merge ∙ (λ i. Follow (sym line i + 1) m.kind (booked ms (own i)))

        goes : m.line ≡ before.line + 1 → are_one_merge before.kind m.kind ≡ true → Follow (m.line + 1) m.kind (booked ms m.seq) → Follow (before.line + 1 + 1) before.kind (booked ms before.seq)
        goes line merge f = subst (λ (T : Type 0). T) (sym (alike line merge)) f

        comes : m.line ≡ before.line + 1 → are_one_merge before.kind m.kind ≡ true → Follow (before.line + 1 + 1) before.kind (booked ms before.seq) → Follow (m.line + 1) m.kind (booked ms m.seq)
        comes line merge f = subst (λ (T : Type 0). T) (alike line merge) f

    -- and one of a higher number is the first of its booking
    next_exact : (before.seq == m.seq) ≡ false → Decides (are_lines (Some m) ms) (GoOn m ms) → Decides (m.line == 1 && are_lines (Some m) ms) (GoOn before (m ∷ ms))
    next_exact apart more = in_words (both (equal_exact m.line 1) more)
        (λ p. record { rest = subst (Follow (before.line + 1) before.kind) (sym none) (tt, tt); others = λ number e. opens p number })
        (λ g. opened (λ number. whole g number (before.seq == number) refl))
      where
        differ : before.seq ≡ m.seq → ⊥
        differ = eqb-false before.seq m.seq apart

        none : booked (m ∷ ms) before.seq ≡ []
        none = none_left (λ (x : Movement). x.seq == before.seq) (m ∷ ms)
            (numbers_differ m.seq before.seq (λ same_seq. differ (sym same_seq)), all_weaker (λ (x : Movement). m.seq ≤ x.seq) _ (λ (x : Movement) high. numbers_differ x.seq before.seq (λ same_seq. differ (omega (arith, low, high, same_seq)))) ms above)

        whole : GoOn before (m ∷ ms) → (number : ℕ) (b : Bool) → (before.seq == number) ≡ b → AreLines (booked (m ∷ ms) number)
        whole g number true e = subst (λ n. AreLines (booked (m ∷ ms) n)) (eqb-true before.seq number e) (subst AreLines (sym none) tt)
        whole g number false e = g.others number e

all_above : (m : Movement) (ms : List Movement) → AllByRecursion (λ x. movement_order m x ≡ Less) ms → AllByRecursion (λ x. m.seq ≤ x.seq) ms
all_above m = all_weaker (λ x. movement_order m x ≡ Less) (λ x. m.seq ≤ x.seq) (λ x less. number_rises m x less)

rest_exact : (before : Movement) (ms : List Movement) → IsStrictlySortedBy movement_order ms → AllByRecursion (λ x. before.seq ≤ x.seq) ms → Decides (are_lines (Some before) ms) (GoOn before ms)
unfolding IsStrictlySortedBy
rest_exact before [] sorted low = ((λ e. record { rest = (tt, tt); others = λ number e. tt }), (λ g. refl))
rest_exact before (m ∷ ms) sorted low = by (before.seq == m.seq) refl (rest_exact m ms sorted.1 (all_above m ms sorted.0))
  where
    by : (b : Bool) → (before.seq == m.seq) ≡ b → Decides (are_lines (Some m) ms) (GoOn m ms) → Decides (cond b (is_next_part before m) (m.line == 1) && are_lines (Some m) ms) (GoOn before (m ∷ ms))
    by true e more = part_exact m ms (all_above m ms sorted.0) before low.0 (eqb-true before.seq m.seq e) more
    by false e more = next_exact m ms (all_above m ms sorted.0) before low.0 e more

lines_exact : (ms : List Movement) → IsStrictlySortedBy movement_order ms → Decides (are_lines None ms) ((number : ℕ) → AreLines (booked ms number))
unfolding IsStrictlySortedBy
lines_exact [] sorted = ((λ e number. tt), (λ l. refl))
lines_exact (m ∷ ms) sorted = let above = all_above m ms sorted.0 in in_words (both (equal_exact m.line 1) (rest_exact m ms sorted.1 above)) (opens m ms above) (opened m ms above)

-- ---- bookings

-- the parts of a merge are among what one command booked
parts_booked : (ms : List Movement) (seq : ℕ) → parts_of ms seq ≡ filter (λ m. is_merged m.kind) (booked ms seq)
parts_booked ms seq =
    (λ i. filter (λ (m : Movement). and_comm (is_merged m.kind) (m.seq == seq) i) ms)
    ∙ filter_both (λ (m : Movement). m.seq == seq) (λ (m : Movement). is_merged m.kind) ms

parts_exact : (ms : List Movement) → Decides (are_parts ms) ((length ms ≤ greatest_parts) × AreDistinct ms)
parts_exact ms = both (le_exact (length ms) greatest_parts) (distinct_exact ms)

-- what a filter leaves of distinct sources is distinct
distinct_left : (test : Movement → Bool) (ms : List Movement) → AreDistinct ms → AreDistinct (filter test ms)
distinct_left test [] distinct = tt
distinct_left test (m ∷ ms) distinct = elim (test m) as (λ b. AreDistinct (cond b (m ∷ filter test ms) (filter test ms))) [
  | true ↦ (all_filtered (λ (x : Movement). is_one_source m x ≡ false) test ms distinct.0, distinct_left test ms distinct.1)
  | false ↦ distinct_left test ms distinct.1
]

abbrev RightMerges : List Movement → Type 0
RightMerges ms = AllByRecursion (λ m. is_of_right_merge ms m ≡ true) ms

-- lines whose merges are right are a booking
booking : (ms : List Movement) → RightMerges ms → (number : ℕ) (lines : List Movement) → booked ms number ≡ lines → AreLines lines → IsBooking lines
booking ms merges number [] are chain = record { numbered = tt; few = omega arith; merged = tt; distinct = tt }
booking ms merges number (m ∷ []) are chain = record { numbered = (chain.0, tt); few = omega arith; merged = tt; distinct = (tt, tt) }
booking ms merges number (m ∷ x ∷ rest) are chain =
    let of_number = λ (y : Movement). y.seq == number in
    let merged = λ (y : Movement). is_merged y.kind in
    let right = (subst (AllByRecursion (λ (y : Movement). is_of_right_merge ms y ≡ true)) are (all_filtered (λ (y : Movement). is_of_right_merge ms y ≡ true) of_number ms merges)).0 in
    let own : m.seq ≡ number = eqb-true m.seq number (subst (AllByRecursion (λ (y : Movement). of_number y ≡ true)) are (filtered_passes of_number ms)).0 in
    let all_merged : AllByRecursion (λ y. merged y ≡ true) (m ∷ x ∷ rest) =
    (ap is_merged (one_merge m.kind x.kind chain.1.1.0).1, all_weaker (λ (y : Movement). are_one_merge m.kind y.kind ≡ true) (λ y. merged y ≡ true) (λ y one. ap is_merged (one_merge m.kind y.kind one).2) (x ∷ rest) chain.1.1) in
    let mine : parts_of ms m.seq ≡ m ∷ x ∷ rest = parts_booked ms m.seq ∙ ap (λ n. filter merged (booked ms n)) own ∙ ap (filter merged) are ∙ all_left merged (m ∷ x ∷ rest) all_merged in
    let parts = (parts_exact (m ∷ x ∷ rest)).0 (ap are_parts (sym mine) ∙ ap (λ b. not b || are_parts (parts_of ms m.seq)) (sym all_merged.0) ∙ right) in
    record { numbered = (chain.0, chain.1.0); few = parts.0; merged = chain.1.1; distinct = parts.1 }

lines_of : (lines : List Movement) → IsBooking lines → AreLines lines
lines_of [] b = tt
lines_of (m ∷ ms) b = (b.numbered.0, (b.numbered.1, b.merged))

-- and the merges of bookings are right
pub right_merges : (ms : List Movement) → ((number : ℕ) → IsBooking (booked ms number)) → RightMerges ms
right_merges ms bookings = all_of _ (λ (m : Movement). or_right (not (is_merged m.kind)) _ (parts_pass m.seq)) ms
  where
    parts_pass : (seq : ℕ) → are_parts (parts_of ms seq) ≡ true
    parts_pass seq =
        let merged = λ (m : Movement). is_merged m.kind in
        let few : length (filter merged (booked ms seq)) ≤ greatest_parts = omega (arith, (bookings seq).few, length-filter merged (booked ms seq), count_by-le-length merged (booked ms seq)) in
        ap are_parts (parts_booked ms seq) ∙ (parts_exact (filter merged (booked ms seq))).1 (few, distinct_left merged (booked ms seq) (bookings seq).distinct)

-- ---- each number

swapped : (a b : ℕ) → (a == b) ≡ false → (b == a) ≡ false
swapped a b e = numbers_differ b a (λ same. eqb-false a b e (sym same))

apart_exact : (events : List BatchEvent) (m : Movement) → Decides (is_apart events m) (AllByRecursion (λ e. (m.seq == e.seq) ≡ false) events)
apart_exact events m = in_words (none_exact (λ (e : BatchEvent). e.seq == m.seq) events)
    (all_weaker (λ (e : BatchEvent). (e.seq == m.seq) ≡ false) (λ e. (m.seq == e.seq) ≡ false) (λ e. swapped e.seq m.seq) events)
    (all_weaker (λ (e : BatchEvent). (m.seq == e.seq) ≡ false) (λ e. (e.seq == m.seq) ≡ false) (λ e. swapped m.seq e.seq) events)

entered_exact : (ms : List Movement) (seq : ℕ) (k : Option (List ℕ × ℕ)) → Decides (is_entered_before ms seq k) (IsEnteredBefore ms seq k)
entered_exact ms seq None = ((λ e. tt), (λ b. refl))
entered_exact ms seq (Some k) = of_passing (λ (m : Movement). m.seq < seq) (λ (m : Movement). is_sublot_key (goes_to m.kind m.lot m.sub) k.0 k.1) ms
    (all_exact (λ (m : Movement). nat_lt m.seq seq) (λ m. m.seq < seq) (λ m. lt_exact m.seq seq) (entries ms k.0 k.1))

module _ (greatest : ℕ) (events : List BatchEvent) (ms : List Movement) where
  abbrev IsGiven : ℕ → Type 0
  IsGiven seq = (1 ≤ seq) × (seq ≤ greatest)

  abbrev IsApart : Movement → Type 0
  IsApart m = AllByRecursion (λ e. (m.seq == e.seq) ≡ false) events

  abbrev IsEntered : Movement → Type 0
  IsEntered m = IsEnteredBefore ms m.seq (comes_from m.kind m.lot m.sub)

  number_exact : (m : Movement) → Decides (has_right_number greatest events ms m) ((IsGiven m.seq × IsApart m) × IsEntered m)
  unfolding has_right_number
  number_exact m = both (both (given_exact greatest m.seq) (apart_exact events m)) (entered_exact ms m.seq (comes_from m.kind m.lot m.sub))

  numbers_exact : IsStrictlySortedBy movement_order ms → Decides (are_numbers greatest events ms) ((((number : ℕ) → AreLines (booked ms number)) × AllByRecursion (λ m. (IsGiven m.seq × IsApart m) × IsEntered m) ms) × AllByRecursion (λ e. IsGiven e.seq) events)
  numbers_exact sorted = both (both (lines_exact ms sorted) (all_exact (has_right_number greatest events ms) _ number_exact ms)) (all_exact (λ (e : BatchEvent). is_given greatest e.seq) _ (λ e. given_exact greatest e.seq) events)

  pub consistent_numbers : are_numbers greatest events ms ≡ true → IsStrictlySortedBy movement_order ms → IsStrictlySortedBy event_order events → RightMerges ms → IsNumbered greatest ms events
  consistent_numbers tests sorted events_sorted merges =
      let right = (numbers_exact sorted).0 tests in
      let each = all_apart (λ (m : Movement). IsGiven m.seq × IsApart m) IsEntered ms right.0.1 in
      let given = all_apart (λ (m : Movement). IsGiven m.seq) IsApart ms each.0 in
      record {
        movements = sorted;
        events = events_sorted;
        movements_given = given.0;
        events_given = right.1;
        apart = given.1;
        bookings = λ number. booking ms merges number (booked ms number) refl (right.0.0 number);
        entered_before = each.1;
      }

  pub right_numbers : IsNumbered greatest ms events → are_numbers greatest events ms ≡ true
  right_numbers n =
      let given = all_joined (λ (m : Movement). IsGiven m.seq) IsApart ms n.movements_given n.apart in
      (numbers_exact n.movements).1 (((λ number. lines_of (booked ms number) (n.bookings number)), all_joined (λ (m : Movement). IsGiven m.seq × IsApart m) IsEntered ms given n.entered_before), n.events_given)

-- each movement is a line
pub lines_numbered : (greatest : ℕ) (events : List BatchEvent) (ms : List Movement) → are_numbers greatest events ms ≡ true → AllByRecursion (λ m. 1 ≤ m.line) ms
lines_numbered greatest events ms tests = low None ms (and_left (are_lines None ms) _ (and_left (are_lines None ms && list_all (has_right_number greatest events ms) ms) (list_all (λ (e : BatchEvent). is_given greatest e.seq) events) tests))
  where
    first : (before : Option Movement) (m : Movement) → is_next_line before m ≡ true → 1 ≤ m.line
    first None m e = let one = eqb-true m.line 1 e in omega (arith, one)
    first (Some before) m e = by (before.seq == m.seq) e
      where
        by : (b : Bool) → cond b (is_next_part before m) (m.line == 1) ≡ true → 1 ≤ m.line
        by true f = let next = eqb-true m.line (before.line + 1) (and_left (m.line == before.line + 1) (are_one_merge before.kind m.kind) f) in omega (arith, next)
        by false f = let one = eqb-true m.line 1 f in omega (arith, one)

    low : (before : Option Movement) (xs : List Movement) → are_lines before xs ≡ true → AllByRecursion (λ m. 1 ≤ m.line) xs
    low before [] e = tt
    low before (m ∷ xs) e = (first before m (and_left (is_next_line before m) (are_lines (Some m) xs) e), low (Some m) xs (and_right (is_next_line before m) (are_lines (Some m) xs) e))
