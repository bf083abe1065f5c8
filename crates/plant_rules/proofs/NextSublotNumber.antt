-- The number of a lot's next sublot, and that it isn't taken.
use Rattle.std.proofs.Common.{◌≡◌, ◌∙◌, ℕ, ◌<◌, true, false, cond, List, [], ◌∷◌, map, filter, find, is_some, Some, None, refl, sym, ap, arith, max, ◌==◌, ◌&&◌, ne_eqb}
use Rattle.std.specs.List.{AllByRecursion}
use Rattle.std.proofs.Math.Nat.{le-max_left, le-max_right}
use Rattle.plant_base.specs.{State, same, place_at, Movement, Place, Sublot}
use Rattle.plant_view.proofs.ListLemmas.{all_weaker, same_key_tie, test_tie, none_passes}
use Rattle.plant_stock.specs.{is_sublot_key}
use Rattle.plant_rules.specs.{greatest, next_number}
use Rattle.plant_view.specs.{sublot_row}

-- ---- the greatest number

-- rows have the numbers of their positions
pub numbers_kept : (ms : List Movement) (ps : List Place) → map (λ (r : Sublot). r.number) (map (sublot_row ms) ps) ≡ map (λ (p : Place). p.number) ps
numbers_kept ms [] = refl
numbers_kept ms (p ∷ ps) = ap (λ ns. p.number ∷ ns) (numbers_kept ms ps)

-- a greater number is none of them
other_number : (m n g : ℕ) → max m g < n → (m == n) ≡ false
other_number m n g above = ne_eqb m n (λ same. omega (arith, le-max_left m g, above, same))

free_above : (lot : List ℕ) (n : ℕ) (ps : List Place) → greatest (map (λ (p : Place). p.number) (filter (λ (p : Place). same p.lot lot) ps)) < n → find (λ (p : Place). same p.lot lot && p.number == n) ps ≡ None
free_above lot n [] above = refl
free_above lot n (p ∷ ps) above = elim (same p.lot lot) as (λ b. greatest (map (λ (p : Place). p.number) (cond b (p ∷ filter (λ (p : Place). same p.lot lot) ps) (filter (λ (p : Place). same p.lot lot) ps))) < n → cond (b && p.number == n) (Some p) (find (λ (p : Place). same p.lot lot && p.number == n) ps) ≡ None) [
  | true ↦ λ h.
      let g = greatest (map (λ (p : Place). p.number) (filter (λ (p : Place). same p.lot lot) ps)) in
      ap (λ b. cond b (Some p) (find (λ (p : Place). same p.lot lot && p.number == n) ps)) (other_number p.number n g h)
      ∙ free_above lot n ps (omega (arith, le-max_right p.number g, h))
  | false ↦ λ h. free_above lot n ps h
] above

-- no sublot of the lot has the next number
pub next_free : (s : State) (lot : List ℕ) → place_at s lot (next_number s lot) ≡ None
next_free s lot = free_above lot (next_number s lot) s.places (omega arith)

-- ---- a sublot that isn't there

-- nothing that goes to it goes to one that is
pub none_among : (s : State) (lot : List ℕ) (number amount : ℕ) → place_at s lot number ≡ None → AllByRecursion (λ (q : Place). cond (is_sublot_key (Some (lot, number)) q.lot q.number) amount 0 ≡ 0) s.places
none_among s lot number amount none =
    let p : Place = record { lot = lot; number = number; place = [] } in
    all_weaker _ _ (λ (q : Place) e. ap (λ b. cond b amount 0) (same_key_tie p q ∙ sym (test_tie p q) ∙ e)) s.places (none_passes (λ (q : Place). same q.lot lot && q.number == number) s.places (ap is_some none))
