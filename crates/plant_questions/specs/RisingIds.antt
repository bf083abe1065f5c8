-- The rows of a consistent state are in the order of their lots.
use Rattle.std.specs.Prelude.{◌≡◌, ℕ, zero, suc, ◌+◌, Bool, false, List, [], ◌∷◌, map, filter, refl}
use Rattle.std.proofs.Common.{◌∙◌, ap, arith}
use Rattle.std.specs.List.Sorted.{IsStrictlySortedBy}
use Rattle.std.specs.Ordering.{is_lt, nat_cmp, ordering_reverse, ordering_then}
use Rattle.std.specs.declared.cmp.Ordering.{Ordering}
use Rattle.std.specs.declared.cmp.Ordering.TheVariants.{Less, Equal, Greater}
use Rattle.std.proofs.lemmas.Cmp.{nat_list_cmp_total}
use Rattle.std.proofs.lemmas.List.Kept.{IsStrictlySortedBy-filter}
use Rattle.plant_base.specs.{State, id_cmp, lot_order, place_order, hold_order, Hold, Lot, Sublot}
use Rattle.plant_view.specs.DecisionInvariant.{DecisionInvariant}
use Rattle.plant_view.specs.{sublot_order, sublot_row}
use Rattle.plant_questions.specs.Prefetching.{Rise}
use Rattle.plant_view.proofs.Membership.{map_sorted}

-- ---- by a key that the order compares first

module _ {R : Type 0} (order : R → R → Ordering) (lot_of : R → List ℕ) (by_lot : (a b : R) → order a b ≡ Less → is_lt (id_cmp (lot_of b) (lot_of a)) ≡ false) where
  pub rise : (rows : List R) → IsStrictlySortedBy order rows → Rise lot_of rows
  unfolding IsStrictlySortedBy
  rise [] sorted k d low high = absurd (omega (arith, high))
  rise (x ∷ []) sorted k d low high = absurd (omega (arith, high))
  rise (x ∷ y ∷ rows) sorted zero d low high = by_lot x y sorted.0.0
  rise (x ∷ y ∷ rows) sorted (suc k) d low high =
      let next : suc k + 1 ≡ suc (k + 1) = omega arith in
      rw next (rise (y ∷ rows) sorted.1 k d (omega arith) (omega (arith, high)))

-- an id that comes first isn't after the other
not_behind : (a b : List ℕ) (o : Ordering) → id_cmp a b ≡ o → (o ≡ Greater → ⊥) → is_lt (id_cmp b a) ≡ false
not_behind a b Less e other = ap is_lt (nat_list_cmp_total.antisymm b a ∙ ap ordering_reverse e)
not_behind a b Equal e other = ap is_lt (nat_list_cmp_total.antisymm b a ∙ ap ordering_reverse e)
not_behind a b Greater e other = absurd (other refl)

then_less : (o p : Ordering) → ordering_then o p ≡ Less → o ≡ Greater → ⊥
then_less Less p e g = absurd cc
then_less _ p e g = absurd cc

by_first : (a b : List ℕ) (p : Ordering) → ordering_then (id_cmp a b) p ≡ Less → is_lt (id_cmp b a) ≡ false
by_first a b p e = not_behind a b (id_cmp a b) refl (then_less (id_cmp a b) p e)

-- ---- the rows of a state

less_itself : Less ≡ Greater → ⊥
less_itself e = absurd cc

pub lots_rise : (s : State) (test : Lot → Bool) → DecisionInvariant s → Rise (λ (l : Lot). l.id) (filter test s.lots)
lots_rise s test sound = rise lot_order (λ (l : Lot). l.id) (λ a b e. not_behind a.id b.id Less e less_itself) (filter test s.lots) (IsStrictlySortedBy-filter lot_order test s.lots sound.stock.lots)

pub holds_rise : (s : State) (test : Hold → Bool) → DecisionInvariant s → Rise (λ (h : Hold). h.lot) (filter test s.holds)
holds_rise s test sound = rise hold_order (λ (h : Hold). h.lot) (λ a b e. by_first a.lot b.lot (id_cmp a.id b.id) e) (filter test s.holds) (IsStrictlySortedBy-filter hold_order test s.holds sound.bars.holds)

-- places with their stock keep their order
pub sublots_rise : (s : State) (test : Sublot → Bool) → DecisionInvariant s → Rise (λ (r : Sublot). r.lot) (filter test (map (sublot_row s.movements) s.places))
sublots_rise s test sound =
    let list = map (sublot_row s.movements) s.places in
    rise sublot_order (λ (r : Sublot). r.lot) (λ a b e. by_first a.lot b.lot (nat_cmp a.number b.number) e) (filter test list) (IsStrictlySortedBy-filter sublot_order test list (map_sorted place_order sublot_order (sublot_row s.movements) (λ a b less. less) s.places sound.stock.places))
