-- Why a lot's stock in a consistent state is what was born in it less what left it.
use Rattle.std.proofs.Common.{◌≡◌, ℕ, ◌+◌, ◌-◌, Bool, true, false, cond, List, [], ◌∷◌, map, filter, refl, ap, arith, ◌&&◌, not, sum_by}
use Rattle.std.proofs.lemmas.List.Sums.{sum_by-cons}
use Rattle.plant_base.specs.{State, same, Movement, MovementKind, Place, Sublot}
use Rattle.plant_base.specs.declared.rows.MovementKind.TheVariants.{Received, Consumed, Produced, Scrapped, Divided, Split, Merged}
use Rattle.plant_base.proofs.PutKeepsOrder.{all_weaker}
use Rattle.plant_stock.specs.{entered, left, goes_to, comes_from, is_division, is_in_lot, entering_lot, leaving_lot, born_of, left_of}
use Rattle.plant_view.specs.{IsBalanced, sublot_standing, sublot_row}
use Rattle.plant_view.specs.DecisionInvariant.{DecisionInvariant}
use Rattle.plant_view.proofs.RowsInTurn.{all_of}
use Rattle.plant_view.proofs.SumsOverSublots.{sums_add, chosen_add, of_place, total}

-- ---- one movement: what it brings and takes, a division counted apart

module _ (lot : List ℕ) where
  abbrev mine : List ℕ → Bool
  mine l = same l lot

  module _ (l : List ℕ) (sub amount : ℕ) where
    comes_in : (k : MovementKind) → cond (of_place mine (goes_to k l sub)) amount 0 ≡ cond (not (is_division k) && is_in_lot (goes_to k l sub) lot) amount 0 + cond (is_division k && same l lot) amount 0
    comes_in Received = omega arith
    comes_in (Produced batch) = omega arith
    comes_in (Consumed batch) = refl
    comes_in Scrapped = refl
    comes_in (Divided to) = omega arith
    comes_in (Split to) = omega arith
    comes_in (Merged to) = omega arith

    goes_out : (k : MovementKind) → cond (of_place mine (comes_from k l sub)) amount 0 ≡ cond (not (is_division k) && is_in_lot (comes_from k l sub) lot) amount 0 + cond (is_division k && same l lot) amount 0
    goes_out Received = refl
    goes_out (Produced batch) = refl
    goes_out (Consumed batch) = omega arith
    goes_out Scrapped = omega arith
    goes_out (Divided to) = omega arith
    goes_out (Split to) = omega arith
    goes_out (Merged to) = omega arith

  -- ---- the answer's sum, over the sublots of the lot alone

  of_lot : (ms : List Movement) (ps : List Place) → sum_by (λ (r : Sublot). r.stock) (map (sublot_row ms) (filter (λ p. same p.lot lot) ps)) ≡ sum_by (λ (p : Place). cond (same p.lot lot) (entered ms p.lot p.number - left ms p.lot p.number) 0) ps
  of_lot ms [] = refl
  of_lot ms (p ∷ ps) = elim (same p.lot lot) as (λ b. same p.lot lot ≡ b → sum_by (λ (r : Sublot). r.stock) (map (sublot_row ms) (cond b (p ∷ filter (λ p. same p.lot lot) ps) (filter (λ p. same p.lot lot) ps))) ≡ sum_by (λ (p : Place). cond (same p.lot lot) (entered ms p.lot p.number - left ms p.lot p.number) 0) (p ∷ ps)) [
    | true ↦ λ e.
        let here : cond (same p.lot lot) (entered ms p.lot p.number - left ms p.lot p.number) 0 ≡ entered ms p.lot p.number - left ms p.lot p.number = ap (λ b. cond b (entered ms p.lot p.number - left ms p.lot p.number) 0) e in
        omega (arith, here, of_lot ms ps, sum_by-cons (λ (r : Sublot). r.stock) (sublot_row ms p) (map (sublot_row ms) (filter (λ p. same p.lot lot) ps)), sum_by-cons (λ (p : Place). cond (same p.lot lot) (entered ms p.lot p.number - left ms p.lot p.number) 0) p ps)
    | false ↦ λ e.
        let here : cond (same p.lot lot) (entered ms p.lot p.number - left ms p.lot p.number) 0 ≡ 0 = ap (λ b. cond b (entered ms p.lot p.number - left ms p.lot p.number) 0) e in
        omega (arith, here, of_lot ms ps, sum_by-cons (λ (p : Place). cond (same p.lot lot) (entered ms p.lot p.number - left ms p.lot p.number) 0) p ps)
  ] refl

-- the law
pub balanced : (s : State) → DecisionInvariant s → IsBalanced s
unfolding entered left born_of left_of
balanced s sound lot =
    let ms = s.movements in
    let goes = λ (m : Movement). goes_to m.kind m.lot m.sub in
    let comes = λ (m : Movement). comes_from m.kind m.lot m.sub in
    let within = λ (m : Movement). cond (is_division m.kind && same m.lot lot) m.amount 0 in
    let entered_all = total s sound (mine lot) goes ms (all_weaker _ _ (λ m n. n.0) ms sound.stock.named) in
    let left_all = total s sound (mine lot) comes ms (all_weaker _ _ (λ m n. n.1) ms sound.stock.named) in
    let ins = sums_add (λ m. entering_lot m lot) within (λ m. cond (of_place (mine lot) (goes m)) m.amount 0) ms (all_of _ (λ m. comes_in lot m.lot m.sub m.amount m.kind) ms) in
    let outs = sums_add (λ m. leaving_lot m lot) within (λ m. cond (of_place (mine lot) (comes m)) m.amount 0) ms (all_of _ (λ m. goes_out lot m.lot m.sub m.amount m.kind) ms) in
    let represents = sums_add (λ q. cond (same q.lot lot) (sublot_standing s q.lot q.number) 0) (λ q. cond (same q.lot lot) (left ms q.lot q.number) 0) (λ q. cond (same q.lot lot) (entered ms q.lot q.number) 0) s.places (all_of _ (λ q. chosen_add (same q.lot lot) _ _ _ (omega (arith, sound.stock.covered q.lot q.number))) s.places) in
    omega (arith, entered_all, left_all, ins, outs, represents, of_lot lot ms s.places)
