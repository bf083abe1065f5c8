-- What commands keep of a consistent state: lemmas for every command.
use Rattle.std.proofs.Common.{◌≡◌, ◌∙◌, ℕ, ◌+◌, ◌≤◌, Bool, true, false, cond, List, [], ◌∷◌, Option, Some, None, is_some, is_none, find, refl, sym, ap, arith, ◌==◌, ◌&&◌}
use Rattle.std.specs.List.{AllByRecursion}
use Rattle.std.proofs.lemmas.Bool.{false≢true}
use Rattle.plant_base.specs.{greatest_amount, State, same, put, lot_order, place_order, lot_at, place_at, Lot, Place, Refusal}
use Rattle.plant_base.proofs.PutKeepsOrder.{found_still, found_same}
use Rattle.plant_base.proofs.FindIsFirst.{found_passes, found_keeps}
use Rattle.plant_base.proofs.KeyOrders.{same_key, lot_tie, place_tie}
use Rattle.plant_stock.specs.{entered, left}
use Rattle.plant_view.specs.{refuse, sublot_standing, is_of_lot, IsThere, IsOneMaterial}
use Rattle.plant_view.specs.DecisionInvariant.{DecisionInvariant}
use Rattle.plant_view.proofs.RowKeys.{ids_apart}
use Rattle.plant_view.proofs.StockColumn.{no_place, nothing_entered}

-- ---- a condition that does not fail

pub passed : (b : Bool) (r : Refusal) (rest : Option Refusal) → refuse b r rest ≡ None → (b ≡ false) × (rest ≡ None)
passed true r rest e = absurd cc
passed false r rest e = (refl, e)

pub is_there : {X : Type 0} (o : Option X) → is_none o ≡ false → is_some o ≡ true
is_there None e = absurd (false≢true (sym e))
is_there (Some x) e = refl

pub all_two : {X : Type 0} (P Q R : X → Type 0) → ((x : X) → P x → Q x → R x) → (xs : List X) → AllByRecursion P xs → AllByRecursion Q xs → AllByRecursion R xs
all_two P Q R f [] p q = tt
all_two P Q R f (x ∷ xs) p q = (f x p.0 q.0, all_two P Q R f xs p.1 q.1)

-- ---- a new lot

module _ (s : State) (sound : DecisionInvariant s) where
  -- a sublot that is there has its lot
  pub lot_known : (k : List ℕ × ℕ) → IsThere s (Some k) → is_some (lot_at s k.0) ≡ true
  lot_known k there = elim (place_at s k.0 k.1) as (λ o. place_at s k.0 k.1 ≡ o → is_some o ≡ true → is_some (lot_at s k.0) ≡ true) [
    | None ↦ λ e f. absurd (false≢true f)
    | Some p ↦ λ e f. ap (λ l. is_some (lot_at s l)) (sym (same_key p.lot k.0 p.number k.1 (found_passes _ s.places p e)).0) ∙ found_keeps (λ (p : Place). is_some (lot_at s p.lot) ≡ true) _ s.places p sound.stock.housed e
  ] refl there

  module _ (r : Lot) (none : is_some (lot_at s r.id) ≡ false) where
    -- a known lot is found as before
    pub lot_stays : (lot : List ℕ) → is_some (lot_at s lot) ≡ true → find (λ x. same x.id lot) (put lot_order r s.lots) ≡ lot_at s lot
    lot_stays lot known =
        let apart = (ids_apart (λ l. is_some (lot_at s l)) lot r.id known none).1 in
        found_same lot_order r (λ x. same x.id lot) s.lots apart (λ q e. ap (λ i. same i lot) (sym (lot_tie r q e)) ∙ apart)

    -- movements of one material are so still
    pub of_stays : (k : Option (List ℕ × ℕ)) (j : Option (List ℕ × ℕ)) (t : State) → t.lots ≡ put lot_order r s.lots → IsThere s k → IsThere s j → IsOneMaterial s k j → IsOneMaterial t k j
    of_stays None j t e a b one = tt
    of_stays (Some k) None t e a b one = tt
    of_stays (Some k) (Some j) t e a b one = λ def.
        let at : (lot : List ℕ) → is_some (lot_at s lot) ≡ true → lot_at t lot ≡ lot_at s lot = λ lot known. ap (find (λ x. same x.id lot)) e ∙ lot_stays lot known in
        ap (is_of_lot def) (at k.0 (lot_known k a)) ∙ one def ∙ sym (ap (is_of_lot def) (at j.0 (lot_known j b)))

-- a sublot that was there is there after another was put
pub there_still : (s t : State) (p : Place) → t.places ≡ put place_order p s.places → (k : Option (List ℕ × ℕ)) → IsThere s k → IsThere t k
there_still s t p e None there = tt
there_still s t p e (Some k) there =
    let test = λ (r : Place). same r.lot k.0 && r.number == k.1 in
    ap (λ ps. is_some (find test ps)) e ∙ found_still place_order p test s.places (λ q tie pass. let keys = place_tie p q tie in ap (λ (j : List ℕ × ℕ). same j.0 k.0 && j.1 == k.1) (λ i. (keys.0 i, keys.1 i)) ∙ pass) there

-- ---- what enters and leaves

-- an amount that enters a sublot which isn't there
pub entering_new : (s : State) → DecisionInvariant s → (lot : List ℕ) (number amount : ℕ) → amount ≤ greatest_amount → place_at s lot number ≡ None → (l : List ℕ) (n : ℕ) → entered s.movements l n + cond (same lot l && number == n) amount 0 ≤ greatest_amount
entering_new s sound lot number amount small none l n = elim (same lot l && number == n) as (λ b. (same lot l && number == n) ≡ b → entered s.movements l n + cond b amount 0 ≤ greatest_amount) [
  | true ↦ λ e.
      let keys = same_key lot l number n e in
      let there : entered s.movements lot number ≡ entered s.movements l n = λ i. entered s.movements (keys.0 i) (keys.1 i) in
      let nothing = nothing_entered s sound lot number none in
      omega (arith, there, nothing, small)
  | false ↦ λ e. omega (arith, sound.stock.small l n)
] refl

-- and sublot 0 of a new lot
pub entering_small : (s : State) → DecisionInvariant s → (lot : List ℕ) (amount : ℕ) → amount ≤ greatest_amount → is_some (lot_at s lot) ≡ false → (l : List ℕ) (n : ℕ) → entered s.movements l n + cond (same lot l && 0 == n) amount 0 ≤ greatest_amount
entering_small s sound lot amount small none = entering_new s sound lot 0 amount small (no_place s sound lot 0 none)

-- an amount that leaves a sublot which holds it
pub taking_covered : (s : State) → DecisionInvariant s → (lot : List ℕ) (number amount : ℕ) → amount ≤ sublot_standing s lot number → (l : List ℕ) (n : ℕ) → left s.movements l n + cond (same lot l && number == n) amount 0 ≤ entered s.movements l n
taking_covered s sound lot number amount enough l n = elim (same lot l && number == n) as (λ b. (same lot l && number == n) ≡ b → left s.movements l n + cond b amount 0 ≤ entered s.movements l n) [
  | true ↦ λ e.
      let keys = same_key lot l number n e in
      let here : sublot_standing s lot number ≡ sublot_standing s l n = λ i. sublot_standing s (keys.0 i) (keys.1 i) in
      omega (arith, here, enough, sound.stock.covered l n)
  | false ↦ λ e. omega (arith, sound.stock.covered l n)
] refl
