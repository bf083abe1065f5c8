-- What the movements or the event of one more command do to the numbers.
use Rattle.std.proofs.Common.{◌≡◌, ◌∙◌, ℕ, ◌+◌, ◌<◌, Bool, true, false, List, [], ◌∷◌, ◌++◌, map, Option, Some, None, refl, sym, ap, subst, arith, ◌==◌, nat_cmp, Less, eqb-true}
use Rattle.std.specs.List.{AllByRecursion}
use Rattle.std.specs.List.Sorted.{IsStrictlySortedBy}
use Rattle.std.specs.Ordering.{ordering_then}
use Rattle.std.proofs.lemmas.Cmp.{tied_itself, nat_cmp_total}
use Rattle.std.proofs.lemmas.Bool.{false≢true}
use Rattle.plant_base.specs.{BatchEvent, Movement, event_order, movement_order}
use Rattle.plant_view.proofs.ListLemmas.{all_weaker, all_push, all_two}
use Rattle.plant_stock.specs.{goes_to, comes_from, is_sublot_key}
use Rattle.plant_invariant.specs.{AreCounted, booked, IsBooking, IsEnteredBefore, IsNumbered}
use Rattle.plant_invariant.proofs.AppendKeepsOrder.{all_append, filter_old, filter_added, sorted_append, sorted_push, number_less, numbers_differ}

-- ---- the order of movements

lower_number : (x y : Movement) → x.seq < y.seq → movement_order x y ≡ Less
lower_number x y less = ap (λ o. ordering_then o (nat_cmp x.line y.line)) (number_less x.seq y.seq less)

lower_line : (x y : Movement) → x.seq ≡ y.seq → x.line < y.line → movement_order x y ≡ Less
lower_line x y same less = ap (λ o. ordering_then o (nat_cmp x.line y.line)) (ap (nat_cmp x.seq) (sym same) ∙ tied_itself nat_cmp_total x.seq) ∙ number_less x.line y.line less

module _ (number : ℕ) where
  above_line : (x : Movement) (k : ℕ) (ms : List Movement) → x.seq ≡ number → x.line < k → AllByRecursion (λ m. m.seq ≡ number) ms → AreCounted k (map (λ m. m.line) ms) → AllByRecursion (λ y. movement_order x y ≡ Less) ms
  above_line x k [] own below seqs lines = tt
  above_line x k (m ∷ ms) own below seqs lines = (lower_line x m (own ∙ sym seqs.0) (omega (arith, below, lines.0)), above_line x (k + 1) ms own (omega (arith, below)) seqs.1 lines.1)

  -- the lines of one command ascend
  lines_sorted : (k : ℕ) (ms : List Movement) → AllByRecursion (λ m. m.seq ≡ number) ms → AreCounted k (map (λ m. m.line) ms) → IsStrictlySortedBy movement_order ms
  unfolding IsStrictlySortedBy
  lines_sorted k [] seqs lines = tt
  lines_sorted k (m ∷ ms) seqs lines = (above_line m (k + 1) ms seqs.0 (omega (arith, lines.0)) seqs.1 lines.1, lines_sorted (k + 1) ms seqs.1 lines.1)

-- ---- what enters before

-- no movement enters the sublot, where one is named
abbrev pub IsUnentered : List Movement → Option (List ℕ × ℕ) → Type 0
IsUnentered ms None = Unit {0}
IsUnentered ms (Some sublot) = AllByRecursion (λ m. is_sublot_key (goes_to m.kind m.lot m.sub) sublot.0 sublot.1 ≡ false) ms

entered_more : (ms lines : List Movement) (number : ℕ) (k : Option (List ℕ × ℕ)) → IsEnteredBefore ms number k → IsUnentered lines k → IsEnteredBefore (ms ++ lines) number k
entered_more ms lines number None before none = tt
entered_more ms lines number (Some k) before none = all_append _ ms lines before (all_weaker _ (λ (m : Movement). is_sublot_key (goes_to m.kind m.lot m.sub) k.0 k.1 ≡ true → m.seq < number) (λ (m : Movement) no enters. absurd (false≢true (sym no ∙ enters))) lines none)

module _ (seq : ℕ) (ms : List Movement) (es : List BatchEvent) (n : IsNumbered seq ms es) where
  entered_lower : (number : ℕ) (k : Option (List ℕ × ℕ)) → seq < number → IsEnteredBefore ms number k
  entered_lower number None less = tt
  entered_lower number (Some k) less = all_weaker _ (λ (m : Movement). is_sublot_key (goes_to m.kind m.lot m.sub) k.0 k.1 ≡ true → m.seq < number) (λ (m : Movement) g enters. omega (arith, g.1, less)) ms n.movements_given

  -- ---- a command that books nothing

  pub numbers_later : IsNumbered (seq + 1) ms es
  numbers_later = record {
    movements = n.movements;
    events = n.events;
    movements_given = all_weaker _ _ (λ (m : Movement) g. (g.0, omega (arith, g.1))) ms n.movements_given;
    events_given = all_weaker _ _ (λ (e : BatchEvent) g. (g.0, omega (arith, g.1))) es n.events_given;
    apart = n.apart;
    bookings = n.bookings;
    entered_before = n.entered_before;
  }

  -- ---- an event

  pub numbers_happened : (e : BatchEvent) → e.seq ≡ seq + 1 → IsNumbered (seq + 1) ms (es ++ e ∷ [])
  numbers_happened e new = record {
    movements = n.movements;
    events = sorted_push event_order es e n.events (all_weaker _ _ (λ (x : BatchEvent) g. number_less x.seq e.seq (omega (arith, g.1, new))) es n.events_given);
    movements_given = numbers_later.movements_given;
    events_given = all_push _ es e numbers_later.events_given (omega (arith, new), omega (arith, new));
    apart = all_two _ _ _ (λ (m : Movement) g apart. all_push (λ (x : BatchEvent). (m.seq == x.seq) ≡ false) es e apart (numbers_differ m.seq e.seq (λ same. omega (arith, g.1, new, same)))) ms n.movements_given n.apart;
    bookings = n.bookings;
    entered_before = n.entered_before;
  }

  -- ---- movements

  module _ (lines : List Movement) (new : AllByRecursion (λ m. m.seq ≡ seq + 1) lines) (one : IsBooking lines) where
    booked_more : (number : ℕ) → IsBooking (booked (ms ++ lines) number)
    booked_more number = by (seq + 1 == number) refl
      where
        by : (b : Bool) → (seq + 1 == number) ≡ b → IsBooking (booked (ms ++ lines) number)
        by true e =
            let same : seq + 1 ≡ number = eqb-true (seq + 1) number e in
            subst IsBooking (sym (filter_added (λ (m : Movement). m.seq == number) ms lines
            (all_weaker _ _ (λ (m : Movement) g. numbers_differ m.seq number (λ own. omega (arith, g.1, same, own))) ms n.movements_given)
            (all_weaker _ _ (λ (m : Movement) own. ap (λ k. k == number) own ∙ e) lines new))) one
        by false e = subst IsBooking (sym (filter_old (λ (m : Movement). m.seq == number) ms lines (all_weaker _ _ (λ (m : Movement) own. ap (λ k. k == number) own ∙ e) lines new))) (n.bookings number)

    pub numbers_booked : AllByRecursion (λ m. IsUnentered lines (comes_from m.kind m.lot m.sub)) ms → AllByRecursion (λ m. IsUnentered lines (comes_from m.kind m.lot m.sub)) lines → IsNumbered (seq + 1) (ms ++ lines) es
    numbers_booked old_apart new_apart = record {
      movements = sorted_append movement_order ms lines n.movements (lines_sorted (seq + 1) 1 lines new one.numbered)
          (all_weaker _ _ (λ (m : Movement) g. all_weaker _ _ (λ (x : Movement) own. lower_number m x (omega (arith, g.1, own))) lines new) ms n.movements_given);
      events = n.events;
      movements_given = all_append _ ms lines numbers_later.movements_given (all_weaker _ _ (λ (m : Movement) own. (omega (arith, own), omega (arith, own))) lines new);
      events_given = numbers_later.events_given;
      apart = all_append _ ms lines n.apart (all_weaker _ _ (λ (m : Movement) own. all_weaker _ _ (λ (e : BatchEvent) g. numbers_differ m.seq e.seq (λ same. omega (arith, g.1, own, same))) es n.events_given) lines new);
      bookings = booked_more;
      entered_before = all_append _ ms lines
          (all_two _ _ _ (λ (m : Movement) before none. entered_more ms lines m.seq (comes_from m.kind m.lot m.sub) before none) ms n.entered_before old_apart)
          (all_two _ _ _ (λ (m : Movement) own none. entered_more ms lines m.seq (comes_from m.kind m.lot m.sub) (entered_lower m.seq (comes_from m.kind m.lot m.sub) (omega (arith, own))) none) lines new new_apart);
    }
