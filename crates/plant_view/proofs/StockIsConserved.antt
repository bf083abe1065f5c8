-- Why nothing is lost and nothing made in a consistent state.
use Rattle.std.proofs.Common.{◌≡◌, ◌∙◌, ℕ, ◌+◌, Bool, true, false, cond, List, refl, ap, arith, ◌&&◌}
use Rattle.plant_base.specs.{State, Movement, MovementKind}
use Rattle.plant_base.specs.declared.rows.MovementKind.TheVariants.{Received, Consumed, Produced, Scrapped, Divided, Split, Merged}
use Rattle.plant_base.proofs.PutKeepsOrder.{all_weaker}
use Rattle.plant_stock.specs.{entered, left, goes_to, comes_from}
use Rattle.plant_view.specs.{sublot_standing, IsOneMaterial, is_of, is_birth, is_end, IsConserved}
use Rattle.plant_view.specs.DecisionInvariant.{DecisionInvariant}
use Rattle.plant_view.proofs.RowsInTurn.{all_of}
use Rattle.plant_view.proofs.SumsOverSublots.{sums_add, chosen_add, of_place, total}

-- ---- births, ends and what moves between lots

abbrev is_inner : MovementKind → Bool
is_inner Received = false
is_inner (Produced batch) = false
is_inner (Consumed batch) = false
is_inner Scrapped = false
is_inner (Divided to) = true
is_inner (Split to) = true
is_inner (Merged to) = true

module _ (s : State) (def : List ℕ) (lot : List ℕ) (sub amount : ℕ) where
  comes_in : (k : MovementKind) → IsOneMaterial s (goes_to k lot sub) (comes_from k lot sub) → cond (of_place (is_of s def) (goes_to k lot sub)) amount 0 ≡ cond (is_birth k && is_of s def lot) amount 0 + cond (is_inner k && is_of s def lot) amount 0
  comes_in Received one = omega arith
  comes_in (Produced batch) one = omega arith
  comes_in (Consumed batch) one = refl
  comes_in Scrapped one = refl
  comes_in (Divided to) one = omega arith
  comes_in (Split to) one = ap (λ b. cond b amount 0) (one def) ∙ omega arith
  comes_in (Merged to) one = ap (λ b. cond b amount 0) (one def) ∙ omega arith

  goes_out : (k : MovementKind) → cond (of_place (is_of s def) (comes_from k lot sub)) amount 0 ≡ cond (is_end k && is_of s def lot) amount 0 + cond (is_inner k && is_of s def lot) amount 0
  goes_out Received = refl
  goes_out (Produced batch) = refl
  goes_out (Consumed batch) = omega arith
  goes_out Scrapped = omega arith
  goes_out (Divided to) = omega arith
  goes_out (Split to) = omega arith
  goes_out (Merged to) = omega arith

-- the law
pub conserved : (s : State) → DecisionInvariant s → IsConserved s
unfolding entered left
conserved s sound def =
    let ms = s.movements in
    let goes = λ (m : Movement). goes_to m.kind m.lot m.sub in
    let comes = λ (m : Movement). comes_from m.kind m.lot m.sub in
    let inner = λ (m : Movement). cond (is_inner m.kind && is_of s def m.lot) m.amount 0 in
    let births = λ (m : Movement). cond (is_birth m.kind && is_of s def m.lot) m.amount 0 in
    let ends = λ (m : Movement). cond (is_end m.kind && is_of s def m.lot) m.amount 0 in
    let entered_all = total s sound (is_of s def) goes ms (all_weaker _ _ (λ m n. n.0) ms sound.stock.named) in
    let left_all = total s sound (is_of s def) comes ms (all_weaker _ _ (λ m n. n.1) ms sound.stock.named) in
    let ins = sums_add births inner (λ m. cond (of_place (is_of s def) (goes m)) m.amount 0) ms (all_weaker _ _ (λ m one. comes_in s def m.lot m.sub m.amount m.kind one) ms sound.stock.one_material) in
    let outs = sums_add ends inner (λ m. cond (of_place (is_of s def) (comes m)) m.amount 0) ms (all_of _ (λ m. goes_out s def m.lot m.sub m.amount m.kind) ms) in
    let represents = sums_add (λ q. cond (is_of s def q.lot) (sublot_standing s q.lot q.number) 0) (λ q. cond (is_of s def q.lot) (left ms q.lot q.number) 0) (λ q. cond (is_of s def q.lot) (entered ms q.lot q.number) 0) s.places (all_of _ (λ q. chosen_add (is_of s def q.lot) _ _ _ (omega (arith, sound.stock.covered q.lot q.number))) s.places) in
    omega (arith, entered_all, left_all, ins, outs, represents)
