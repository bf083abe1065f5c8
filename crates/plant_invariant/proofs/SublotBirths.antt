-- How sublots came to be, after the movements of one more command.
use Rattle.std.proofs.Common.{◌≡◌, ◌∙◌, ℕ, ◌+◌, ◌≤◌, Bool, true, false, List, [], ◌∷◌, ◌++◌, length, map, filter, Option, Some, None, is_some, refl, sym, ap, subst, arith, ◌==◌, ◌&&◌, nat_cmp, Equal}
use Rattle.std.specs.List.{AllByRecursion}
use Rattle.std.specs.Ordering.{ordering_then}
use Rattle.std.proofs.lemmas.Cmp.{tied_itself, nat_list_cmp_total, nat_list_eq_equiv}
use Rattle.std.proofs.lemmas.List.{map-append}
use Rattle.std.proofs.Math.Nat.{le-max_left, le-max_right}
use Rattle.plant_base.specs.{State, same, put, id_cmp, lot_order, place_order, lot_at, place_at, Lot, Movement, Place}
use Rattle.plant_view.proofs.ListLemmas.{all_weaker, all_put, same_id, same_itself, key_itself, same_key_tie, test_tie, place_order_total, place_tie, all_two, none_passes, none_left, filtered_passes, filter_past, filter_put, put_last}
use Rattle.plant_stock.specs.{goes_to, is_sublot_key, entries}
use Rattle.plant_view.specs.{IsThere}
use Rattle.plant_view.specs.DecisionInvariant.{DecisionInvariant}
use Rattle.plant_view.proofs.RowKeys.{ids_apart, keys_apart}
use Rattle.plant_view.proofs.StockColumn.{no_place}
use Rattle.plant_rules.proofs.NextSublotNumber.{next_free}
use Rattle.plant_rules.specs.{greatest, next_number}
use Rattle.plant_invariant.specs.{AreCounted, numbers_among, AreFromZero, IsBirth, IsDivision, IsBorn, AreBorn}
use Rattle.plant_invariant.proofs.AppendKeepsOrder.{filter_old, filter_added, number_less}
use Rattle.plant_invariant.proofs.NumbersAfterCommand.{IsUnentered}

-- ---- sublots that are there, and those that aren't

-- the sublot, where one is named, isn't there
abbrev pub IsAbsent : State → Option (List ℕ × ℕ) → Type 0
IsAbsent s None = Unit {0}
IsAbsent s (Some sublot) = is_some (place_at s sublot.0 sublot.1) ≡ false

-- a sublot that is there isn't one that isn't
apart_from : (s : State) (k : Option (List ℕ × ℕ)) (lot : List ℕ) (number : ℕ) → IsAbsent s k → is_some (place_at s lot number) ≡ true → is_sublot_key k lot number ≡ false
apart_from s None lot number absent there = refl
apart_from s (Some k) lot number absent there = (keys_apart (λ l n. is_some (place_at s l n)) lot number k.0 k.1 there absent).1

-- what enters no sublot that is there enters none that a movement takes from
pub unentered : (s : State) (lines : List Movement) (k : Option (List ℕ × ℕ)) → AllByRecursion (λ m. IsAbsent s (goes_to m.kind m.lot m.sub)) lines → IsThere s k → IsUnentered lines k
unentered s lines None absent there = tt
unentered s lines (Some k) absent there = all_weaker _ _ (λ (m : Movement) a. apart_from s (goes_to m.kind m.lot m.sub) k.0 k.1 a there) lines absent

-- nothing has entered a sublot that isn't there
never_entered : (s : State) → DecisionInvariant s → (p : Place) → is_some (place_at s p.lot p.number) ≡ false → AllByRecursion (λ m. is_sublot_key (goes_to m.kind m.lot m.sub) p.lot p.number ≡ false) s.movements
never_entered s sound p none = all_weaker _ _ (λ (m : Movement) named. by_place (goes_to m.kind m.lot m.sub) named.0) s.movements sound.stock.named
  where
    by_place : (k : Option (List ℕ × ℕ)) → IsThere s k → is_sublot_key k p.lot p.number ≡ false
    by_place None there = refl
    by_place (Some k) there = (keys_apart (λ l n. is_some (place_at s l n)) k.0 k.1 p.lot p.number there none).0

-- ---- entries

-- a sublot that the new movements don't enter came to be as before
born_still : (ms lines : List Movement) (p : Place) → AllByRecursion (λ m. is_sublot_key (goes_to m.kind m.lot m.sub) p.lot p.number ≡ false) lines → IsBorn ms p → IsBorn (ms ++ lines) p
born_still ms lines p none b =
    let e : entries (ms ++ lines) p.lot p.number ≡ entries ms p.lot p.number = filter_old (λ (m : Movement). is_sublot_key (goes_to m.kind m.lot m.sub) p.lot p.number) ms lines none in
    record {
      whole = λ z. subst IsBirth (sym e) (b.whole z);
      divided = λ l. subst IsDivision (sym e) (b.divided l);
    }

-- the movements lead to this sublot alone
abbrev pub PossibleOutcomes : Place → List Movement → Type 0
PossibleOutcomes p lines = AllByRecursion (λ m. goes_to m.kind m.lot m.sub ≡ Some (p.lot, p.number)) lines

-- the movements lead nowhere
abbrev pub LeadNowhere : List Movement → Type 0
LeadNowhere lines = AllByRecursion (λ m. goes_to m.kind m.lot m.sub ≡ None) lines

pub nowhere_absent : (s : State) (lines : List Movement) → LeadNowhere lines → AllByRecursion (λ m. IsAbsent s (goes_to m.kind m.lot m.sub)) lines
nowhere_absent s lines nowhere = all_weaker _ _ (λ (m : Movement) e. subst (IsAbsent s) (sym e) tt) lines nowhere

pub into_absent : (s : State) (p : Place) → is_some (place_at s p.lot p.number) ≡ false → (lines : List Movement) → PossibleOutcomes p lines → AllByRecursion (λ m. IsAbsent s (goes_to m.kind m.lot m.sub)) lines
into_absent s p none lines into = all_weaker _ _ (λ (m : Movement) e. subst (IsAbsent s) (sym e) none) lines into

-- sublots are as they were where nothing enters any
pub births_nowhere : (lots : List Lot) (places : List Place) (ms lines : List Movement) → LeadNowhere lines → AreBorn lots places ms → AreBorn lots places (ms ++ lines)
births_nowhere lots places ms lines nowhere births = record {
  numbered = births.numbered;
  each = all_weaker _ _ (λ (p : Place) b. born_still ms lines p (all_weaker _ _ (λ (m : Movement) e. ap (λ k. is_sublot_key k p.lot p.number) e) lines nowhere) b) places births.each;
}

module _ (s : State) (sound : DecisionInvariant s) (p : Place) (none : is_some (place_at s p.lot p.number) ≡ false) (lines : List Movement) (into : PossibleOutcomes p lines) where
  -- the sublots that were there came to be as before
  each_still : AllByRecursion (IsBorn s.movements) s.places → AllByRecursion (IsBorn (s.movements ++ lines)) s.places
  each_still each = all_two _ _ _ (λ (q : Place) fails b. born_still s.movements lines q
      (all_weaker _ _ (λ (m : Movement) e. ap (λ k. is_sublot_key k q.lot q.number) e ∙ same_key_tie p q ∙ sym (test_tie p q) ∙ fails) lines into) b)
      s.places (none_passes (λ (q : Place). same q.lot p.lot && q.number == p.number) s.places none) each

  -- and the new one by the new movements
  born_new : (p.number ≡ 0 → IsBirth lines) → (1 ≤ p.number → IsDivision lines) → IsBorn (s.movements ++ lines) p
  born_new birth division =
      let e : entries (s.movements ++ lines) p.lot p.number ≡ lines = filter_added (λ (m : Movement). is_sublot_key (goes_to m.kind m.lot m.sub) p.lot p.number) s.movements lines (never_entered s sound p none)
      (all_weaker _ _ (λ (m : Movement) e. ap (λ k. is_sublot_key k p.lot p.number) e ∙ key_itself p.lot p.number) lines into) in
      record {
        whole = λ z. subst IsBirth (sym e) (birth z);
        divided = λ l. subst IsDivision (sym e) (division l);
      }

  pub each_born : (p.number ≡ 0 → IsBirth lines) → (1 ≤ p.number → IsDivision lines) → AllByRecursion (IsBorn s.movements) s.places → AllByRecursion (IsBorn (s.movements ++ lines)) (put place_order p s.places)
  each_born birth division each = all_put place_order (IsBorn (s.movements ++ lines)) p s.places (born_new birth division) (each_still each)

-- ---- numbers of sublots

-- places of one key are places of one lot
place_tied : (lot : List ℕ) (p q : Place) → place_order p q ≡ Equal → same p.lot lot ≡ same q.lot lot
place_tied lot p q e = ap (λ l. same l lot) (place_tie p q e).0

-- another lot has the numbers that it had
numbers_past : (p : Place) (places : List Place) (lot : List ℕ) → same p.lot lot ≡ false → numbers_among (put place_order p places) lot ≡ numbers_among places lot
numbers_past p places lot other = ap (map (λ (q : Place). q.number)) (filter_past place_order place_order_total p (λ (q : Place). same q.lot lot) (place_tied lot p) places other)

counted_push : (k : ℕ) (ns : List ℕ) (n : ℕ) → AreCounted k ns → n ≡ k + length ns → AreCounted k (ns ++ n ∷ [])
counted_push k [] n counted e = (omega (arith, e), tt)
counted_push k (m ∷ ns) n counted e = (counted.0, counted_push (k + 1) ns n counted.1 (omega (arith, e)))

-- the greatest of them is the last
greatest_last : (k n : ℕ) (ns : List ℕ) → AreCounted k (n ∷ ns) → greatest (n ∷ ns) ≡ k + length ns
greatest_last k n [] counted = omega (arith, counted.0)
greatest_last k n (m ∷ ns) counted = omega (arith, counted.0, greatest_last (k + 1) m ns counted.1)

next_counted : (ns : List ℕ) → AreFromZero ns → AreFromZero (ns ++ (greatest ns + 1) ∷ [])
next_counted [] whole = absurd (omega (arith, whole.0))
next_counted (n ∷ ns) whole = (omega arith, counted_push 0 (n ∷ ns) (greatest (n ∷ ns) + 1) whole.1 (omega (arith, greatest_last 0 n ns whole.1)))

each_least : (ps : List Place) → AllByRecursion (λ p. p.number ≤ greatest (map (λ q. q.number) ps)) ps
each_least [] = tt
each_least (p ∷ ps) =
    let g = greatest (map (λ (q : Place). q.number) ps) in
    (le-max_left p.number g, all_weaker _ _ (λ (q : Place) l. omega (arith, l, le-max_right p.number g)) ps (each_least ps))

-- the numbers of a lot with one more sublot, of the next number
numbers_next : (s : State) → DecisionInvariant s → (p : Place) → p.number ≡ next_number s p.lot → numbers_among (put place_order p s.places) p.lot ≡ numbers_among s.places p.lot ++ p.number ∷ []
numbers_next s sound p e =
    let own = λ (q : Place). same q.lot p.lot in
    let its = filter own s.places in
    let below = all_two _ _ _ (λ (q : Place) same_lot least.
    ap (λ o. ordering_then o (nat_cmp q.number p.number)) (ap (λ l. id_cmp l p.lot) (same_id q.lot p.lot same_lot) ∙ tied_itself nat_list_cmp_total p.lot) ∙ number_less q.number p.number (omega (arith, least, e))) its (filtered_passes own s.places) (each_least its) in
    ap (map (λ (q : Place). q.number)) (filter_put place_order place_order_total p own (place_tied p.lot p) s.places sound.stock.places (same_itself p.lot) ∙ put_last place_order place_order_total p its below)
    ∙ map-append (λ (q : Place). q.number) its (p ∷ [])

-- ---- births

-- a new lot with its sublot 0
pub births_new : (s : State) → DecisionInvariant s → (r : Lot) (place : List ℕ) (lines : List Movement) → is_some (lot_at s r.id) ≡ false → PossibleOutcomes (record { lot = r.id; number = 0; place = place }) lines → IsBirth lines
    → AreBorn s.lots s.places s.movements → AreBorn (put lot_order r s.lots) (put place_order (record { lot = r.id; number = 0; place = place }) s.places) (s.movements ++ lines)
births_new s sound r place lines none into birth births =
    let p : Place = record { lot = r.id; number = 0; place = place } in
    let own = λ (q : Place). same q.lot r.id in
    let others : AllByRecursion (λ (q : Place). own q ≡ false) s.places = all_weaker _ _ (λ (q : Place) known. (ids_apart (λ l. is_some (lot_at s l)) q.lot r.id known none).0) s.places sound.stock.housed in
    let first : numbers_among (put place_order p s.places) r.id ≡ 0 ∷ [] =
    ap (map (λ (q : Place). q.number)) (filter_put place_order place_order_total p own (place_tied r.id p) s.places sound.stock.places (same_itself r.id) ∙ ap (put place_order p) (none_left own s.places others)) in
    record {
      numbered = all_put lot_order _ r s.lots (subst AreFromZero (sym first) (omega arith, (refl, tt)))
          (all_two _ _ _ (λ (l : Lot) other whole. subst AreFromZero (sym (numbers_past p s.places l.id (nat_list_eq_equiv.symm r.id l.id ∙ other))) whole) s.lots (none_passes (λ (l : Lot). same l.id r.id) s.lots none) births.numbered);
      each = each_born s sound p (ap is_some (no_place s sound r.id 0 none)) lines into (λ e. birth) (λ l. absurd (omega (arith, l))) births.each;
    }

-- a lot with one more sublot
pub births_divided : (s : State) → DecisionInvariant s → (p : Place) (lines : List Movement) → p.number ≡ next_number s p.lot → PossibleOutcomes p lines → IsDivision lines
    → AreBorn s.lots s.places s.movements → AreBorn s.lots (put place_order p s.places) (s.movements ++ lines)
births_divided s sound p lines e into division births = record {
  numbered = all_weaker _ _ (λ (l : Lot) whole. one_more l.id whole (same p.lot l.id) refl) s.lots births.numbered;
  each = each_born s sound p (ap (λ n. is_some (place_at s p.lot n)) e ∙ ap is_some (next_free s p.lot)) lines into (λ z. absurd (omega (arith, e, z))) (λ l. division) births.each;
}
  where
    one_more : (lot : List ℕ) → AreFromZero (numbers_among s.places lot) → (b : Bool) → same p.lot lot ≡ b → AreFromZero (numbers_among (put place_order p s.places) lot)
    one_more lot whole false other = subst AreFromZero (sym (numbers_past p s.places lot other)) whole
    one_more lot whole true its =
        let key = same_id p.lot lot its in
        let own : AreFromZero (numbers_among s.places p.lot) = subst (λ l. AreFromZero (numbers_among s.places l)) (sym key) whole in
        let more : AreFromZero (numbers_among s.places p.lot ++ p.number ∷ []) = subst (λ n. AreFromZero (numbers_among s.places p.lot ++ n ∷ [])) (sym e) (next_counted (numbers_among s.places p.lot) own) in
        subst (λ l. AreFromZero (numbers_among (put place_order p s.places) l)) key (subst AreFromZero (sym (numbers_next s sound p e)) more)
