-- What all movements bring to the sublots of some lots, summed over the sublots and over the movements.
use Rattle.std.proofs.Common.{◌≡◌, ◌∙◌, ℕ, ◌+◌, Bool, true, false, cond, List, [], ◌∷◌, Option, Some, None, is_some, find, refl, sym, ap, arith, sum_by, is_eq, Ordering, Less, Equal, Greater}
use Rattle.std.specs.List.{AllByRecursion}
use Rattle.std.specs.List.Sorted.{IsStrictlySortedBy}
use Rattle.std.proofs.lemmas.List.Sums.{sum_by-cons}
use Rattle.std.proofs.lemmas.Bool.{false≢true}
use Rattle.plant_base.specs.{State, place_order, Movement, Place}
use Rattle.plant_base.proofs.PutKeepsOrder.{at_rest, all_weaker}
use Rattle.plant_base.proofs.KeyOrders.{same_key, place_order_total, same_key_tie, test_tie}
use Rattle.plant_stock.specs.{is_sublot_key}
use Rattle.plant_view.specs.{IsThere}
use Rattle.plant_view.specs.DecisionInvariant.{DecisionInvariant}
use Rattle.plant_view.proofs.RowsInTurn.{all_of}

-- ---- sums

pub sums_add : {X : Type 0} (f g h : X → ℕ) (xs : List X) → AllByRecursion (λ x. h x ≡ f x + g x) xs → sum_by h xs ≡ sum_by f xs + sum_by g xs
sums_add f g h [] e = refl
sums_add f g h (x ∷ xs) e = omega (arith, sum_by-cons f x xs, sum_by-cons g x xs, sum_by-cons h x xs, e.0, sums_add f g h xs e.1)

pub chosen_add : (b : Bool) (x y z : ℕ) → x ≡ y + z → cond b x 0 ≡ cond b y 0 + cond b z 0
chosen_add true x y z e = e
chosen_add false x y z e = refl

sum_zero : {X : Type 0} (f : X → ℕ) (xs : List X) → AllByRecursion (λ x. f x ≡ 0) xs → sum_by f xs ≡ 0
sum_zero f [] a = refl
sum_zero f (x ∷ xs) a = omega (arith, sum_by-cons f x xs, a.0, sum_zero f xs a.1)

is_equal : (o : Ordering) → is_eq o ≡ true → o ≡ Equal
is_equal Less e = absurd (false≢true e)
is_equal Equal e = refl
is_equal Greater e = absurd (false≢true e)

chosen_zero : (b : Bool) → let z : ℕ = 0 in cond b z z ≡ z
chosen_zero true = refl
chosen_zero false = refl

-- ---- one sublot among ascending ones

-- the amount at the one place with p's key
abbrev at_one : (Place → Bool) → ℕ → Place → Place → ℕ
at_one w a p q = cond (w q) (cond (is_eq (place_order p q)) a 0) 0

nowhere_one : (w : Place → Bool) (a : ℕ) (p : Place) (qs : List Place) → AllByRecursion (λ q. is_eq (place_order p q) ≡ false) qs → sum_by (at_one w a p) qs ≡ 0
nowhere_one w a p qs apart = sum_zero (at_one w a p) qs (all_weaker _ _ (λ q e. ap (λ b. cond (w q) (cond b a 0) 0) e ∙ chosen_zero (w q)) qs apart)

once : (w : Place → Bool) (v : Bool) (a : ℕ) (p : Place) → ((q : Place) → is_eq (place_order p q) ≡ true → w q ≡ v) → (qs : List Place) → IsStrictlySortedBy place_order qs → is_some (find (λ q. is_eq (place_order p q)) qs) ≡ true → sum_by (at_one w a p) qs ≡ cond v a 0
unfolding IsStrictlySortedBy
once w v a p same_w [] sorted found = absurd (false≢true found)
once w v a p same_w (q ∷ qs) sorted found = elim (is_eq (place_order p q)) as (λ b. is_eq (place_order p q) ≡ b → is_some (cond b (Some q) (find (λ q. is_eq (place_order p q)) qs)) ≡ true → sum_by (at_one w a p) (q ∷ qs) ≡ cond v a 0) [
  | true ↦ λ e f.
      let others = nowhere_one w a p qs (at_rest place_order place_order place_order_total (λ r. r) (λ r. r) p (λ r. refl) q qs (is_equal _ e) sorted.0) in
      let here : at_one w a p q ≡ cond v a 0 = ap (λ b. cond (w q) (cond b a 0) 0) e ∙ ap (λ b. cond b a 0) (same_w q e) in
      omega (arith, sum_by-cons (at_one w a p) q qs, others, here)
  | false ↦ λ e f.
      let here : at_one w a p q ≡ 0 = ap (λ b. cond (w q) (cond b a 0) 0) e ∙ chosen_zero (w q) in
      omega (arith, sum_by-cons (at_one w a p) q qs, here, once w v a p same_w qs sorted.1 f)
] refl found

-- ---- all sublots of some lots

-- the sublot, where one is named, is of such a lot
abbrev pub of_place : (List ℕ → Bool) → Option (List ℕ × ℕ) → Bool
of_place mine None = false
of_place mine (Some k) = mine k.0

module _ (s : State) (sound : DecisionInvariant s) (mine : List ℕ → Bool) where
  by_place : (k : Option (List ℕ × ℕ)) (a : ℕ) → IsThere s k → sum_by (λ q. cond (mine q.lot) (cond (is_sublot_key k q.lot q.number) a 0) 0) s.places ≡ cond (of_place mine k) a 0
  by_place None a there = sum_zero _ s.places (all_of _ (λ q. chosen_zero (mine q.lot)) s.places)
  by_place (Some k) a there =
      let p : Place = record { lot = k.0; number = k.1; place = [] } in
      let found = sym (λ i. is_some (find (λ q. test_tie p q i) s.places)) ∙ there in
      (λ i. sum_by (λ q. cond (mine q.lot) (cond (same_key_tie p q i) a 0) 0) s.places)
      ∙ once (λ q. mine q.lot) (mine k.0) a p (λ q e. ap mine (sym (same_key k.0 q.lot k.1 q.number (same_key_tie p q ∙ e)).0)) s.places sound.stock.places found

  module _ (to : Movement → Option (List ℕ × ℕ)) where
    -- what all movements bring to the sublots of these lots
    pub total : (ms : List Movement) → AllByRecursion (λ m. IsThere s (to m)) ms → sum_by (λ q. cond (mine q.lot) (sum_by (λ m. cond (is_sublot_key (to m) q.lot q.number) m.amount 0) ms) 0) s.places ≡ sum_by (λ m. cond (of_place mine (to m)) m.amount 0) ms
    total [] there = sum_zero _ s.places (all_of _ (λ q. chosen_zero (mine q.lot)) s.places)
    total (m ∷ ms) there =
        let parts = sums_add (λ q. cond (mine q.lot) (cond (is_sublot_key (to m) q.lot q.number) m.amount 0) 0) (λ q. cond (mine q.lot) (sum_by (λ m. cond (is_sublot_key (to m) q.lot q.number) m.amount 0) ms) 0) (λ q. cond (mine q.lot) (sum_by (λ m. cond (is_sublot_key (to m) q.lot q.number) m.amount 0) (m ∷ ms)) 0) s.places (all_of _ (λ q. chosen_add (mine q.lot) _ _ _ (sum_by-cons (λ m. cond (is_sublot_key (to m) q.lot q.number) m.amount 0) m ms)) s.places) in
        omega (arith, parts, by_place (to m) m.amount there.0, total ms there.1, sum_by-cons (λ m. cond (of_place mine (to m)) m.amount 0) m ms)
