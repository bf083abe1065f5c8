-- What is booked along an edge of a consistent state fits 64 bits: all that left a lot does, and all that entered it.
use Rattle.std.proofs.Common.{◌≡◌, ℕ, ◌≤◌, ◌<◌, ◌^◌, Bool, true, false, cond, List, Option, refl, sym, ap, arith, ◌∙◌}
use Rattle.std.proofs.lemmas.List.Sums.{sum_by-le-sum_by}
use Rattle.plant_base.specs.{edge_eq, State, same, EdgeKind, EdgeRow, Movement, MovementKind}
use Rattle.plant_base.specs.declared.rows.EdgeKind.TheVariants.{LotToBatch, BatchToLot, LotToLot}
use Rattle.plant_base.specs.declared.rows.MovementKind.TheVariants.{Consumed, Produced, Split, Merged}
use Rattle.plant_view.proofs.ListLemmas.{same_itself, all_weaker}
use Rattle.plant_stock.specs.{goes_to, comes_from, entered, left}
use Rattle.plant_view.specs.{edge_row_by}
use Rattle.plant_view.specs.DecisionInvariant.{DecisionInvariant}
use Rattle.plant_view.proofs.SumsOverSublots.{of_place, total}
use Rattle.plant_answers_genealogy.specs.{amount_of, booked_along, is_made}
use Rattle.plant_answers_genealogy.proofs.SumsByEdge.{edge_exact}
use Rattle.plant_answers_genealogy.proofs.TotalStockFits.{bounded}

-- ---- one movement

-- the lot that is named is this one
abbrev mine : List ℕ → List ℕ → Bool
mine lot l = same l lot

module _ (e : EdgeRow) where
  at_most : (x : EdgeRow) (a : ℕ) (b : Bool) → (x ≡ e → b ≡ true) → cond (edge_eq x e) a 0 ≤ cond b a 0
  at_most x a b same_as = by (edge_eq x e) refl
    where
      by : (t : Bool) → edge_eq x e ≡ t → cond t a 0 ≤ cond b a 0
      by true is = let yes : cond b a 0 ≡ a = ap (λ (t : Bool). cond t a 0) (same_as (edge_exact x e is)) in omega (arith, yes)
      by false is = omega arith

  here : (lot id : List ℕ) → lot ≡ id → same lot id ≡ true
  here lot id is = ap (same lot) (sym is) ∙ same_itself lot

  module _ (lot : List ℕ) (sub a : ℕ) where
    -- what an edge from a lot takes leaves that lot
    out_of : (k : MovementKind) → (e.kind ≡ BatchToLot → ⊥) → cond (is_made e (edge_row_by k lot)) a 0 ≤ cond (of_place (mine e.from) (comes_from k lot sub)) a 0
    out_of (Consumed batch) differs = at_most (record { kind = LotToBatch; from = lot; to = batch }) a (same lot e.from) (λ is. here lot e.from (ap (λ (x : EdgeRow). x.from) is))
    out_of (Produced batch) differs = at_most (record { kind = BatchToLot; from = batch; to = lot }) a false (λ is. absurd (differs (sym (ap (λ (x : EdgeRow). x.kind) is))))
    out_of (Split to) differs = at_most (record { kind = LotToLot; from = lot; to = to }) a (same lot e.from) (λ is. here lot e.from (ap (λ (x : EdgeRow). x.from) is))
    out_of (Merged to) differs = at_most (record { kind = LotToLot; from = lot; to = to }) a (same lot e.from) (λ is. here lot e.from (ap (λ (x : EdgeRow). x.from) is))
    out_of _ differs = omega arith

    other_kind : (x : EdgeRow) → e.kind ≡ BatchToLot → (x.kind ≡ BatchToLot → ⊥) → (b : Bool) → cond (edge_eq x e) a 0 ≤ cond b a 0
    other_kind x is differs b = at_most x a b (λ same_as. absurd (differs (ap (λ (y : EdgeRow). y.kind) same_as ∙ is)))

    -- what an edge from a batch brings enters its lot
    into : (k : MovementKind) → e.kind ≡ BatchToLot → cond (is_made e (edge_row_by k lot)) a 0 ≤ cond (of_place (mine e.to) (goes_to k lot sub)) a 0
    into (Consumed batch) is = other_kind (record { kind = LotToBatch; from = lot; to = batch }) is (λ n. absurd (cc)) false
    into (Produced batch) is = at_most (record { kind = BatchToLot; from = batch; to = lot }) a (same lot e.to) (λ same_as. here lot e.to (ap (λ (x : EdgeRow). x.to) same_as))
    into (Split to) is = other_kind (record { kind = LotToLot; from = lot; to = to }) is (λ n. absurd (cc)) (same to e.to)
    into (Merged to) is = other_kind (record { kind = LotToLot; from = lot; to = to }) is (λ n. absurd (cc)) (same to e.to)
    into _ is = omega arith

-- ---- all movements

module _ (s : State) (sound : DecisionInvariant s) (e : EdgeRow) where
  abbrev comes : Movement → Option (List ℕ × ℕ)
  comes m = comes_from m.kind m.lot m.sub

  abbrev goes : Movement → Option (List ℕ × ℕ)
  goes m = goes_to m.kind m.lot m.sub

  taken : (e.kind ≡ BatchToLot → ⊥) → amount_of s.movements e < 2 ^ 64
  unfolding left
  taken differs =
      let less = sum_by-le-sum_by (booked_along e) (λ m. cond (of_place (mine e.from) (comes m)) m.amount 0) s.movements (λ m. out_of e m.lot m.sub m.amount m.kind differs) in
      let all = total s sound (mine e.from) comes s.movements (all_weaker _ _ (λ m n. n.1) s.movements sound.stock.named) in
      let few = bounded e.from (λ p. left s.movements p.lot p.number) (λ p. omega (arith, sound.stock.covered p.lot p.number, sound.stock.small p.lot p.number)) s sound in
      omega (arith, less, all, few)

  brought : e.kind ≡ BatchToLot → amount_of s.movements e < 2 ^ 64
  unfolding entered
  brought is =
      let less = sum_by-le-sum_by (booked_along e) (λ m. cond (of_place (mine e.to) (goes m)) m.amount 0) s.movements (λ m. into e m.lot m.sub m.amount m.kind is) in
      let all = total s sound (mine e.to) goes s.movements (all_weaker _ _ (λ m n. n.0) s.movements sound.stock.named) in
      let few = bounded e.to (λ p. entered s.movements p.lot p.number) (λ p. sound.stock.small p.lot p.number) s sound in
      omega (arith, less, all, few)

  pub amount_fits : amount_of s.movements e < 2 ^ 64
  amount_fits = by e.kind refl
    where
      by : (k : EdgeKind) → e.kind ≡ k → amount_of s.movements e < 2 ^ 64
      by LotToBatch is = taken (λ n. absurd (let both = sym is ∙ n in cc))
      by BatchToLot is = brought is
      by LotToLot is = taken (λ n. absurd (let both = sym is ∙ n in cc))
