-- The rule on moments: they don't fall as the numbers rise, and none is later than the desk's.
use Rattle.std.proofs.Common.{◌≡◌, ◌∙◌, ℕ, ◌≤◌, Bool, true, false, nat_le, List, ◌++◌, map, refl, sym, subst, arith, ◌||◌, not, nat_lt, Decides, le-leb, ltb-true}
use Rattle.std.specs.List.{AllByRecursion, list_all}
use Rattle.std.proofs.lemmas.Bool.Decides.{nat_tests}
use Rattle.std.proofs.lemmas.List.{map-append}
use Rattle.std.proofs.lemmas.Simd.{map-map}
use Rattle.plant_base.specs.{Batch, BatchEvent, BatchRow, Hold, Movement, Position}
use Rattle.plant_view.specs.{batch_of_row}
use Rattle.plant_invariant.specs.{mark_of_movement, mark_of_event, marks, IsNoLater, HasMoments}
use Rattle.plant_requirements.specs.{row_mark_of, row_mark_of_event, row_marks, is_no_later, never_fall, are_times}
use Rattle.plant_check_laws.proofs.ExactTests.{le_exact, both, in_words, all_exact, of_mapped, of_both}

-- a number and a moment
abbrev position : ℕ × ℕ → Position
position mark = record { seq = mark.0; at = mark.1 }

same_marks : (ms : List Movement) (es : List BatchEvent) → map position (row_marks ms es) ≡ marks ms es
same_marks ms es =
    map-append position (map row_mark_of ms) (map row_mark_of_event es)
    ∙ (λ i. map-map position row_mark_of ms i ++ map-map position row_mark_of_event es i)

later_passes : (a b : ℕ × ℕ) → IsNoLater (position a) (position b) → is_no_later a b ≡ true
later_passes a b later = by (nat_lt a.0 b.0) refl
  where
    by : (z : Bool) → nat_lt a.0 b.0 ≡ z → (not z || nat_le a.1 b.1) ≡ true
    by true e = le-leb a.1 b.1 (later (ltb-true a.0 b.0 e))
    by false e = refl

no_later : (a b : ℕ × ℕ) → is_no_later a b ≡ true → IsNoLater (position a) (position b)
no_later a b e = grind (arith, nat_tests)

abbrev AreRising : List Position → Type 0
AreRising ps = AllByRecursion (λ a. AllByRecursion (IsNoLater a) ps) ps

rising_exact : (xs : List (ℕ × ℕ)) → Decides (never_fall xs) (AreRising (map position xs))
rising_exact xs =
    of_mapped (λ (a : Position). AllByRecursion (IsNoLater a) (map position xs)) position xs
    (all_exact (λ (a : ℕ × ℕ). list_all (is_no_later a) xs) (λ a. AllByRecursion (IsNoLater (position a)) (map position xs))
    (λ a. of_mapped (IsNoLater (position a)) position xs (all_exact (is_no_later a) (λ b. IsNoLater (position a) (position b)) (λ b. (no_later a b, later_passes a b)) xs)) xs)

module _ {X : Type 0} (moment : X → ℕ) (at : ℕ) where
  all_by : (xs : List X) → Decides (list_all (λ x. nat_le (moment x) at) xs) (AllByRecursion (λ x. moment x ≤ at) xs)
  all_by = all_exact (λ x. nat_le (moment x) at) (λ x. moment x ≤ at) (λ x. le_exact (moment x) at)

pub moments_exact : (at : ℕ) (ms : List Movement) (es : List BatchEvent) (batches : List BatchRow) (holds : List Hold) → Decides (are_times at ms es batches holds) (HasMoments at ms es (map batch_of_row batches) holds)
moments_exact at ms es batches holds =
    let Past : Position → Type 0 = λ a. a.at ≤ at in
    let booked = of_both Past (map mark_of_movement ms) (map mark_of_event es)
    (both (of_mapped Past mark_of_movement ms (all_by (λ (m : Movement). m.at) at ms)) (of_mapped Past mark_of_event es (all_by (λ (e : BatchEvent). e.at) at es))) in
    let released = of_mapped (λ (b : Batch). b.at ≤ at) batch_of_row batches (all_by (λ (b : BatchRow). b.batch.at) at batches) in
    in_words (both (both (both booked released) (all_by (λ (h : Hold). h.at) at holds)) (rising_exact (row_marks ms es)))
    (λ p. record { rising = subst AreRising (same_marks ms es) p.1; bookings = p.0.0.0; released = p.0.0.1; held = p.0.1 })
    (λ m. (((m.bookings, m.released), m.held), subst AreRising (sym (same_marks ms es)) m.rising))
