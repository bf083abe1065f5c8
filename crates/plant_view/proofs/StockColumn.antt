-- The stock column after one more movement.
use Rattle.std.proofs.Common.{◌≡◌, ◌∙◌, ℕ, ◌-◌, true, false, cond, List, [], ◌∷◌, ◌++◌, map, Option, Some, None, is_some, refl, sym, ap, arith, ◌==◌, ◌&&◌, option_map, is_eq}
use Rattle.std.specs.List.{AllByRecursion}
use Rattle.std.specs.List.Sorted.{IsStrictlySortedBy}
use Rattle.std.proofs.lemmas.Bool.{false≢true, false_from_ne_true}
use Rattle.plant_base.specs.{State, same, put, place_order, lot_at, place_at, Movement, Place}
use Rattle.plant_base.proofs.PutKeepsOrder.{put_map, all_weaker}
use Rattle.plant_base.proofs.FindIsFirst.{found_passes, found_keeps}
use Rattle.plant_base.proofs.KeyOrders.{same_id, same_key, place_order_total, same_key_tie}
use Rattle.plant_stock.specs.{entered, left, entering, leaving, is_sublot_key, goes_to, comes_from}
use Rattle.plant_stock.proofs.StockAfterMovement.{entered_push, left_push, entered_nothing, left_nothing}
use Rattle.plant_view.specs.{sublot_order, sublot_row, IsThere, sublot_standing, IsSublotOf}
use Rattle.plant_view.specs.DecisionInvariant.{DecisionInvariant}
use Rattle.plant_view.proofs.RowsInTurn.{all_of}

-- a movement that names this sublot alone
pub record TouchesOnly (m : Movement) (p : Place) : Type 0 where
  pub entering : (q : Place) → is_eq (place_order p q) ≡ false → entering m q.lot q.number ≡ 0
  pub leaving : (q : Place) → is_eq (place_order p q) ≡ false → leaving m q.lot q.number ≡ 0

-- the other rows stay
pub row_stays : (ms : List Movement) (m : Movement) (p : Place) → TouchesOnly m p → (q : Place) → is_eq (place_order p q) ≡ false → sublot_row ms q ≡ sublot_row (ms ++ m ∷ []) q
row_stays ms m p touches q apart =
    let e : entered ms q.lot q.number ≡ entered (ms ++ m ∷ []) q.lot q.number = omega (arith, entered_push ms m q.lot q.number, touches.entering q apart) in
    let l : left ms q.lot q.number ≡ left (ms ++ m ∷ []) q.lot q.number = omega (arith, left_push ms m q.lot q.number, touches.leaving q apart) in
    λ i. record { lot = q.lot; number = q.number; place = q.place; stock = e i - l i }

-- putting the row of the sublot that the movement names makes the new column
pub sublots_put : (ms : List Movement) (m : Movement) (p : Place) (places : List Place) → IsStrictlySortedBy place_order places → TouchesOnly m p → put sublot_order (sublot_row (ms ++ m ∷ []) p) (map (sublot_row ms) places) ≡ map (sublot_row (ms ++ m ∷ [])) (put place_order p places)
sublots_put ms m p places sorted touches = put_map place_order sublot_order place_order_total (sublot_row ms) (sublot_row (ms ++ m ∷ [])) p (λ q. refl) places sorted (all_of _ (row_stays ms m p touches) places)

-- where a sublot is apart from p, the test of p's key fails
pub apart_fails : (p q : Place) → is_eq (place_order p q) ≡ false → is_sublot_key (Some (p.lot, p.number)) q.lot q.number ≡ false
apart_fails p q e = same_key_tie p q ∙ e

-- a sublot that isn't there has had nothing
nowhere : (s : State) (k : Option (List ℕ × ℕ)) (lot : List ℕ) (number : ℕ) → place_at s lot number ≡ None → IsThere s k → is_sublot_key k lot number ≡ false
nowhere s None lot number none there = refl
nowhere s (Some k) lot number none there = false_from_ne_true _ (λ e.
    let keys = same_key k.0 lot k.1 number e in
    false≢true (sym (ap is_some none) ∙ ap (λ (j : List ℕ × ℕ). is_some (place_at s j.0 j.1)) (λ i. (sym keys.0 i, sym keys.1 i)) ∙ there))

pub nothing_entered : (s : State) → DecisionInvariant s → (lot : List ℕ) (number : ℕ) → place_at s lot number ≡ None → entered s.movements lot number ≡ 0
nothing_entered s sound lot number none = entered_nothing s.movements lot number (all_weaker _ _ (λ m named. ap (λ b. cond b m.amount 0) (nowhere s (goes_to m.kind m.lot m.sub) lot number none named.0)) s.movements sound.stock.named)

pub nothing_left : (s : State) → DecisionInvariant s → (lot : List ℕ) (number : ℕ) → place_at s lot number ≡ None → left s.movements lot number ≡ 0
nothing_left s sound lot number none = left_nothing s.movements lot number (all_weaker _ _ (λ m named. ap (λ b. cond b m.amount 0) (nowhere s (comes_from m.kind m.lot m.sub) lot number none named.1)) s.movements sound.stock.named)

-- a lot that isn't there has no sublot
pub no_place : (s : State) → DecisionInvariant s → (lot : List ℕ) (number : ℕ) → is_some (lot_at s lot) ≡ false → place_at s lot number ≡ None
no_place s sound lot number none = elim (place_at s lot number) as (λ o. place_at s lot number ≡ o → o ≡ None) [
  | None ↦ λ e. refl
  | Some p ↦ λ e.
      let keys = same_key p.lot lot p.number number (found_passes _ s.places p e) in
      let housed = found_keeps (λ (p : Place). is_some (lot_at s p.lot) ≡ true) _ s.places p sound.stock.housed e in
      absurd (false≢true (sym none ∙ ap (λ l. is_some (lot_at s l)) (sym keys.0) ∙ housed))
] refl

-- what a lookup of the row finds
pub found_sublot : (s : State) (lot : List ℕ) (number : ℕ) (o : Option Place) → place_at s lot number ≡ o → IsSublotOf s lot number (option_map (sublot_row s.movements) o)
found_sublot s lot number None e = (ap is_some (sym e), tt)
found_sublot s lot number (Some p) e =
    let keys = same_key p.lot lot p.number number (found_passes _ s.places p e) in
    (ap is_some (sym e), (e ∙ (λ i. Some (record { lot = keys.0 i; number = keys.1 i; place = p.place })), λ i. sublot_standing s (keys.0 i) (keys.1 i)))

-- a movement that brings its amount to no sublot that is there, and takes it from p alone
pub record TakesFrom (m : Movement) (p : Place) (places : List Place) : Type 0 where
  pub entering : AllByRecursion (λ q. entering m q.lot q.number ≡ 0) places
  pub leaving : (q : Place) → is_eq (place_order p q) ≡ false → leaving m q.lot q.number ≡ 0

row_left : (ms : List Movement) (m : Movement) (p q : Place) → entering m q.lot q.number ≡ 0 → (is_eq (place_order p q) ≡ false → leaving m q.lot q.number ≡ 0) → is_eq (place_order p q) ≡ false → sublot_row ms q ≡ sublot_row (ms ++ m ∷ []) q
row_left ms m p q enters crash_states apart =
    let e : entered ms q.lot q.number ≡ entered (ms ++ m ∷ []) q.lot q.number = omega (arith, entered_push ms m q.lot q.number, enters) in
    let l : left ms q.lot q.number ≡ left (ms ++ m ∷ []) q.lot q.number = omega (arith, left_push ms m q.lot q.number, crash_states apart) in
    λ i. record { lot = q.lot; number = q.number; place = q.place; stock = e i - l i }

-- putting the row of the sublot that is taken from makes the new column of the sublots that were there
pub sublots_taken : (ms : List Movement) (m : Movement) (p : Place) (places : List Place) → IsStrictlySortedBy place_order places → TakesFrom m p places → put sublot_order (sublot_row (ms ++ m ∷ []) p) (map (sublot_row ms) places) ≡ map (sublot_row (ms ++ m ∷ [])) (put place_order p places)
sublots_taken ms m p places sorted takes = put_map place_order sublot_order place_order_total (sublot_row ms) (sublot_row (ms ++ m ∷ [])) p (λ q. refl) places sorted (all_weaker _ _ (λ q e. row_left ms m p q e (takes.leaving q)) places takes.entering)

-- putting one more row of a column makes the column with it
pub sublots_added : (ms : List Movement) (p : Place) (places : List Place) → IsStrictlySortedBy place_order places → put sublot_order (sublot_row ms p) (map (sublot_row ms) places) ≡ map (sublot_row ms) (put place_order p places)
sublots_added ms p places sorted = put_map place_order sublot_order place_order_total (sublot_row ms) (sublot_row ms) p (λ q. refl) places sorted (all_of _ (λ q e. refl) places)

-- no sublot that is there is of a lot that isn't
pub not_among : (s : State) → DecisionInvariant s → (lot : List ℕ) (number amount : ℕ) → is_some (lot_at s lot) ≡ false → AllByRecursion (λ (q : Place). cond (is_sublot_key (Some (lot, number)) q.lot q.number) amount 0 ≡ 0) s.places
not_among s sound lot number amount none = all_weaker _ _ (λ (q : Place) known. elim (same lot q.lot && number == q.number) as (λ b. (same lot q.lot && number == q.number) ≡ b → cond b amount 0 ≡ 0) [
  | true ↦ λ e. absurd (false≢true (sym none ∙ ap (λ l. is_some (lot_at s l)) (same_key lot q.lot number q.number e).0 ∙ known))
  | false ↦ λ e. refl
] refl) s.places sound.stock.housed

-- a lot that is there and one that isn't are two
pub lots_apart : (s : State) (a b : List ℕ) → is_some (lot_at s a) ≡ true → is_some (lot_at s b) ≡ false → same a b ≡ false
lots_apart s a b known none = false_from_ne_true _ (λ e. false≢true (sym none ∙ ap (λ l. is_some (lot_at s l)) (sym (same_id a b e)) ∙ known))
