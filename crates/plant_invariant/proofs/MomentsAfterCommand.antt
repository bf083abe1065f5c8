-- What the movements or the event of one more command do to the moments.
use Rattle.std.proofs.Common.{◌≡◌, ℕ, ◌+◌, ◌≤◌, List, [], ◌∷◌, ◌++◌, map, sym, subst, arith}
use Rattle.std.specs.List.{AllByRecursion}
use Rattle.std.proofs.lemmas.List.{map-append}
use Rattle.plant_base.specs.{Batch, BatchEvent, Hold, Movement, Position}
use Rattle.plant_view.proofs.ListLemmas.{all_weaker, all_two, all_mapped}
use Rattle.plant_invariant.specs.{IsNumbered, mark_of_movement, mark_of_event, marks, IsNoLater, HasMoments}
use Rattle.plant_invariant.proofs.AppendKeepsOrder.{all_append, all_middle, all_end}

-- ---- marks

-- no mark is of a higher number or a later moment
abbrev IsPast : ℕ → ℕ → Position → Type 0
IsPast seq at a = (a.seq ≤ seq) × (a.at ≤ at)

-- the mark of the next command
abbrev IsNext : ℕ → ℕ → Position → Type 0
IsNext seq at a = (a.seq ≡ seq + 1) × (a.at ≡ at)

module _ (seq at now : ℕ) (on : at ≤ now) (old new all : List Position) (both : (P : Position → Type 0) → AllByRecursion P old → AllByRecursion P new → AllByRecursion P all)
    (past : AllByRecursion (IsPast seq at) old) (next : AllByRecursion (IsNext seq now) new) where
  -- the new marks are after the old ones
  rising_on : AllByRecursion (λ a. AllByRecursion (IsNoLater a) old) old → AllByRecursion (λ a. AllByRecursion (IsNoLater a) all) all
  rising_on rises = both (λ a. AllByRecursion (IsNoLater a) all)
      (all_two _ _ (λ (a : Position). AllByRecursion (IsNoLater a) all) (λ (a : Position) r p. both (IsNoLater a) r (all_weaker _ (IsNoLater a) (λ (b : Position) n less. omega (arith, p.1, n.1, on)) new next)) old rises past)
      (all_weaker _ (λ (a : Position). AllByRecursion (IsNoLater a) all) (λ (a : Position) n. both (IsNoLater a)
      (all_weaker _ (IsNoLater a) (λ (b : Position) p less. absurd (omega (arith, n.0, p.0, less))) old past)
      (all_weaker _ (IsNoLater a) (λ (b : Position) m less. absurd (omega (arith, n.0, m.0, less))) new next)) new next)

  latest_on : AllByRecursion (λ a. a.at ≤ now) all
  latest_on = both (λ a. a.at ≤ now) (all_weaker _ _ (λ (a : Position) p. omega (arith, p.1, on)) old past) (all_weaker _ _ (λ (a : Position) n. omega (arith, n.1)) new next)

-- ---- the next command

module _ (seq at : ℕ) (ms : List Movement) (es : List BatchEvent) (batches : List Batch) (holds : List Hold) (n : IsNumbered seq ms es) (h : HasMoments at ms es batches holds) (now : ℕ) (on : at ≤ now) where
  past_marks : AllByRecursion (IsPast seq at) (marks ms es)
  past_marks = all_two _ _ _ (λ (a : Position) s t. (s, t)) (marks ms es)
      (all_append (λ (a : Position). a.seq ≤ seq) (map mark_of_movement ms) (map mark_of_event es)
      (all_mapped (λ (a : Position). a.seq ≤ seq) mark_of_movement ms (all_weaker _ _ (λ (m : Movement) g. g.1) ms n.movements_given))
      (all_mapped (λ (a : Position). a.seq ≤ seq) mark_of_event es (all_weaker _ _ (λ (e : BatchEvent) g. g.1) es n.events_given)))
      h.bookings

  pub batches_earlier : AllByRecursion (λ b. b.at ≤ now) batches
  batches_earlier = all_weaker _ _ (λ (b : Batch) l. omega (arith, l, on)) batches h.released

  pub holds_earlier : AllByRecursion (λ x. x.at ≤ now) holds
  holds_earlier = all_weaker _ _ (λ (x : Hold) l. omega (arith, l, on)) holds h.held

  module _ (later_batches : List Batch) (later_holds : List Hold) (released : AllByRecursion (λ b. b.at ≤ now) later_batches) (held : AllByRecursion (λ x. x.at ≤ now) later_holds) where
    -- a command that books nothing
    pub moments_later : HasMoments now ms es later_batches later_holds
    moments_later = record {
      rising = h.rising;
      bookings = all_weaker _ _ (λ (a : Position) l. omega (arith, l, on)) (marks ms es) h.bookings;
      released = released;
      held = held;
    }

  module _ (lines : List Movement) (given : AllByRecursion (λ m. (m.seq ≡ seq + 1) × (m.at ≡ now)) lines) where
    with_lines : (P : Position → Type 0) → AllByRecursion P (marks ms es) → AllByRecursion P (map mark_of_movement lines) → AllByRecursion P (marks (ms ++ lines) es)
    with_lines P a b = subst (λ (xs : List Position). AllByRecursion P (xs ++ map mark_of_event es)) (sym (map-append mark_of_movement ms lines)) (all_middle P (map mark_of_movement ms) (map mark_of_movement lines) (map mark_of_event es) a b)

    next_lines : AllByRecursion (IsNext seq now) (map mark_of_movement lines)
    next_lines = all_mapped (IsNext seq now) mark_of_movement lines given

    pub moments_booked : HasMoments now (ms ++ lines) es batches holds
    moments_booked = record {
      rising = rising_on seq at now on (marks ms es) (map mark_of_movement lines) (marks (ms ++ lines) es) with_lines past_marks next_lines h.rising;
      bookings = latest_on seq at now on (marks ms es) (map mark_of_movement lines) (marks (ms ++ lines) es) with_lines past_marks next_lines;
      released = batches_earlier;
      held = holds_earlier;
    }

  module _ (e : BatchEvent) (given : (e.seq ≡ seq + 1) × (e.at ≡ now)) where
    with_event : (P : Position → Type 0) → AllByRecursion P (marks ms es) → AllByRecursion P (mark_of_event e ∷ []) → AllByRecursion P (marks ms (es ++ e ∷ []))
    with_event P a b = subst (λ (xs : List Position). AllByRecursion P (map mark_of_movement ms ++ xs)) (sym (map-append mark_of_event es (e ∷ []))) (all_end P (map mark_of_movement ms) (map mark_of_event es) (mark_of_event e ∷ []) a b)

    pub moments_happened : HasMoments now ms (es ++ e ∷ []) batches holds
    moments_happened = record {
      rising = rising_on seq at now on (marks ms es) (mark_of_event e ∷ []) (marks ms (es ++ e ∷ [])) with_event past_marks (given, tt) h.rising;
      bookings = latest_on seq at now on (marks ms es) (mark_of_event e ∷ []) (marks ms (es ++ e ∷ [])) with_event past_marks (given, tt);
      released = batches_earlier;
      held = holds_earlier;
    }
