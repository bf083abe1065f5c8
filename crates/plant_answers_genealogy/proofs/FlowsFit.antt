-- What entered a lot of a consistent state and what left it fits in 64 bits, and few movements are enough to count it.
use Rattle.std.proofs.Common.{◌≡◌, ◌∙◌, ℕ, ◌-◌, ◌≤◌, ◌<◌, ◌^◌, Bool, true, false, cond, List, [], ◌∷◌, refl, ap, arith, ◌&&◌, not, sum_by}
use Rattle.std.specs.List.{AllByRecursion}
use Rattle.std.proofs.lemmas.List.Sums.{sum_by-cons}
use Rattle.plant_base.specs.{State, same, Movement, MovementKind}
use Rattle.plant_base.specs.declared.rows.MovementKind.TheVariants.{Received, Consumed, Produced, Scrapped, Divided, Split, Merged}
use Rattle.plant_base.proofs.PutKeepsOrder.{all_weaker}
use Rattle.plant_stock.specs.{entered, goes_to, entering_lot, born_of, is_division, is_in_lot}
use Rattle.plant_view.specs.{is_named}
use Rattle.plant_view.specs.DecisionInvariant.{DecisionInvariant}
use Rattle.plant_view.proofs.RowsInTurn.{all_of}
use Rattle.plant_view.proofs.SumsOverSublots.{of_place, total}
use Rattle.plant_questions.specs.{movements_into, movements_of_lot, other_lot}
use Rattle.plant_answers_genealogy.specs.Balances.{flow_of, moved, in_64_bits}
use Rattle.plant_answers_genealogy.specs.declared.balances.Flow.{Flow}
use Rattle.plant_answers_genealogy.specs.declared.balances.Flow.TheVariants as flow
use Rattle.plant_answers_genealogy.proofs.BalancesClose.{closes, entered_is_born}
use Rattle.plant_answers_genealogy.proofs.BatchMovementsSuffice.{sum_filtered}
use Rattle.plant_answers_genealogy.proofs.TotalStockFits.{bounded}

-- ---- sums

sum_below : {X : Type 0} (f g : X → ℕ) (xs : List X) → AllByRecursion (λ x. f x ≤ g x) xs → sum_by f xs ≤ sum_by g xs
sum_below f g [] a = omega arith
sum_below f g (x ∷ xs) a = omega (arith, sum_by-cons f x xs, sum_by-cons g x xs, a.0, sum_below f g xs a.1)

sum_alike : {X : Type 0} (f g : X → ℕ) (xs : List X) → AllByRecursion (λ x. f x ≡ g x) xs → sum_by f xs ≡ sum_by g xs
sum_alike f g [] a = refl
sum_alike f g (x ∷ xs) a = omega (arith, sum_by-cons f x xs, sum_by-cons g x xs, a.0, sum_alike f g xs a.1)

-- ---- what entered the lot

module _ (lot : List ℕ) where
  abbrev mine : List ℕ → Bool
  mine l = same l lot

  -- a division brings something to a sublot of the lot, and nothing to the lot
  no_more : (l : List ℕ) (sub amount : ℕ) (k : MovementKind) → cond (not (is_division k) && is_in_lot (goes_to k l sub) lot) amount 0 ≤ cond (of_place mine (goes_to k l sub)) amount 0
  no_more l sub amount Received = omega arith
  no_more l sub amount (Produced batch) = omega arith
  no_more l sub amount (Consumed batch) = omega arith
  no_more l sub amount Scrapped = omega arith
  no_more l sub amount (Divided to) = omega arith
  no_more l sub amount (Split to) = omega arith
  no_more l sub amount (Merged to) = omega arith

  born_fits : (s : State) → DecisionInvariant s → born_of s.movements lot < 2 ^ 64
  unfolding born_of entered
  born_fits s sound =
      let ms = s.movements in
      let goes = λ (m : Movement). goes_to m.kind m.lot m.sub in
      let brought = total s sound mine goes ms (all_weaker _ _ (λ m n. n.0) ms sound.stock.named) in
      let small = bounded lot (λ p. entered ms p.lot p.number) (λ p. sound.stock.small p.lot p.number) s sound in
      let below = sum_below (λ m. entering_lot m lot) (λ m. cond (of_place mine (goes m)) m.amount 0) ms (all_of _ (λ m. no_more m.lot m.sub m.amount m.kind) ms) in
      omega (arith, brought, small, below)

module _ (s : State) (sound : DecisionInvariant s) (lot : List ℕ) where
  fits : (f : Flow) → flow_of s lot f < 2 ^ 64
  fits flow.Received = omega (arith, entered_is_born s lot, born_fits lot s sound)
  fits flow.Produced = omega (arith, entered_is_born s lot, born_fits lot s sound)
  fits flow.SplitIn = omega (arith, entered_is_born s lot, born_fits lot s sound)
  fits flow.MergedIn = omega (arith, entered_is_born s lot, born_fits lot s sound)
  fits flow.Consumed = omega (arith, closes s lot sound, entered_is_born s lot, born_fits lot s sound)
  fits flow.Scrapped = omega (arith, closes s lot sound, entered_is_born s lot, born_fits lot s sound)
  fits flow.SplitOut = omega (arith, closes s lot sound, entered_is_born s lot, born_fits lot s sound)
  fits flow.MergedOut = omega (arith, closes s lot sound, entered_is_born s lot, born_fits lot s sound)

  -- ---- the movements that are looked up

  once : (b : Bool) (amount : ℕ) → cond b (cond b amount 0) 0 ≡ cond b amount 0
  once true amount = refl
  once false amount = refl

  nothing : (b : Bool) → let z : ℕ = 0 in cond b z z ≡ z
  nothing true = refl
  nothing false = refl

  -- the flows of the movements whose own lot it is
  abbrev is_own : Flow → Bool
  is_own flow.SplitIn = false
  is_own flow.MergedIn = false
  is_own _ = true

  module _ (m : Movement) where
    own_one : (f : Flow) → is_own f ≡ true → (k : MovementKind) → cond (same m.lot lot) (moved f lot (record m { kind = k })) 0 ≡ moved f lot (record m { kind = k })
    own_one flow.Received own Received = once (same m.lot lot) m.amount
    own_one flow.Received own _ = nothing (same m.lot lot)
    own_one flow.Produced own (Produced batch) = once (same m.lot lot) m.amount
    own_one flow.Produced own _ = nothing (same m.lot lot)
    own_one flow.SplitIn own k = absurd (cc)
    own_one flow.MergedIn own k = absurd (cc)
    own_one flow.Consumed own (Consumed batch) = once (same m.lot lot) m.amount
    own_one flow.Consumed own _ = nothing (same m.lot lot)
    own_one flow.Scrapped own Scrapped = once (same m.lot lot) m.amount
    own_one flow.Scrapped own _ = nothing (same m.lot lot)
    own_one flow.SplitOut own (Split to) = once (same m.lot lot) m.amount
    own_one flow.SplitOut own _ = nothing (same m.lot lot)
    own_one flow.MergedOut own (Merged to) = once (same m.lot lot) m.amount
    own_one flow.MergedOut own _ = nothing (same m.lot lot)

    into_split : (k : MovementKind) → cond (is_named lot (other_lot k m.lot)) (moved flow.SplitIn lot (record m { kind = k })) 0 ≡ moved flow.SplitIn lot (record m { kind = k })
    into_split (Split to) = once (same to lot) m.amount
    into_split k = nothing (is_named lot (other_lot k m.lot))

    into_merged : (k : MovementKind) → cond (is_named lot (other_lot k m.lot)) (moved flow.MergedIn lot (record m { kind = k })) 0 ≡ moved flow.MergedIn lot (record m { kind = k })
    into_merged (Merged to) = once (same to lot) m.amount
    into_merged k = nothing (is_named lot (other_lot k m.lot))

  whole : (n : ℕ) → n < 2 ^ 64 → in_64_bits n ≡ n
  whole n small = omega (arith, small)

  -- the sum over these, as far as it fits, is that over all movements
  pub own_counted : (f : Flow) → is_own f ≡ true → in_64_bits (sum_by (moved f lot) (movements_of_lot s lot)) ≡ flow_of s lot f
  own_counted f own =
      let some = sum_filtered (moved f lot) (λ (m : Movement). same m.lot lot) s.movements in
      let all = sum_alike (λ m. cond (same m.lot lot) (moved f lot m) 0) (moved f lot) s.movements (all_of _ (λ m. own_one m f own m.kind) s.movements) in
      ap in_64_bits (some ∙ all) ∙ whole (flow_of s lot f) (fits f)

  pub split_counted : in_64_bits (sum_by (moved flow.SplitIn lot) (movements_into s lot)) ≡ flow_of s lot flow.SplitIn
  split_counted =
      let some = sum_filtered (moved flow.SplitIn lot) (λ (m : Movement). is_named lot (other_lot m.kind m.lot)) s.movements in
      let all = sum_alike (λ m. cond (is_named lot (other_lot m.kind m.lot)) (moved flow.SplitIn lot m) 0) (moved flow.SplitIn lot) s.movements (all_of _ (λ m. into_split m m.kind) s.movements) in
      ap in_64_bits (some ∙ all) ∙ whole (flow_of s lot flow.SplitIn) (fits flow.SplitIn)

  pub merged_counted : in_64_bits (sum_by (moved flow.MergedIn lot) (movements_into s lot)) ≡ flow_of s lot flow.MergedIn
  merged_counted =
      let some = sum_filtered (moved flow.MergedIn lot) (λ (m : Movement). is_named lot (other_lot m.kind m.lot)) s.movements in
      let all = sum_alike (λ m. cond (is_named lot (other_lot m.kind m.lot)) (moved flow.MergedIn lot m) 0) (moved flow.MergedIn lot) s.movements (all_of _ (λ m. into_merged m m.kind) s.movements) in
      ap in_64_bits (some ∙ all) ∙ whole (flow_of s lot flow.MergedIn) (fits flow.MergedIn)
