-- All that entered a lot of a consistent state is all that left it and its stock.
use Rattle.std.proofs.Common.{◌≡◌, ℕ, ◌+◌, List, [], ◌∷◌, refl, sym, arith, sum_by}
use Rattle.std.proofs.lemmas.List.Sums.{sum_by-cons}
use Rattle.plant_base.specs.{State, Movement, MovementKind}
use Rattle.plant_base.specs.declared.rows.MovementKind.TheVariants.{Received, Consumed, Produced, Scrapped, Divided, Split, Merged}
use Rattle.plant_stock.specs.{entering_lot, leaving_lot, born_of, left_of}
use Rattle.plant_view.specs.{sublots_of}
use Rattle.plant_view.specs.DecisionInvariant.{DecisionInvariant}
use Rattle.plant_view.proofs.LotsAreBalanced.{balanced}
use Rattle.plant_answers_genealogy.specs.Balances.{entered_in_all, flows_of, left_in_all, moved}
use Rattle.plant_answers_genealogy.specs.declared.balances.Flow.TheVariants as flow

module _ (lot : List ℕ) where
  -- ---- each movement makes one flow, or none

  enters_so : (m : Movement) → entering_lot m lot ≡ moved flow.Received lot m + moved flow.Produced lot m + moved flow.SplitIn lot m + moved flow.MergedIn lot m
  enters_so m = by m.kind
    where
      by : (k : MovementKind) → entering_lot (record m { kind = k }) lot ≡ moved flow.Received lot (record m { kind = k }) + moved flow.Produced lot (record m { kind = k }) + moved flow.SplitIn lot (record m { kind = k }) + moved flow.MergedIn lot (record m { kind = k })
      by Received = omega arith
      by (Produced batch) = omega arith
      by (Consumed batch) = refl
      by Scrapped = refl
      by (Divided to) = refl
      by (Split to) = omega arith
      by (Merged to) = omega arith

  leaves_so : (m : Movement) → leaving_lot m lot ≡ moved flow.Consumed lot m + moved flow.Scrapped lot m + moved flow.SplitOut lot m + moved flow.MergedOut lot m
  leaves_so m = by m.kind
    where
      by : (k : MovementKind) → leaving_lot (record m { kind = k }) lot ≡ moved flow.Consumed lot (record m { kind = k }) + moved flow.Scrapped lot (record m { kind = k }) + moved flow.SplitOut lot (record m { kind = k }) + moved flow.MergedOut lot (record m { kind = k })
      by Received = refl
      by (Produced batch) = refl
      by (Consumed batch) = omega arith
      by Scrapped = omega arith
      by (Divided to) = refl
      by (Split to) = omega arith
      by (Merged to) = omega arith

  -- ---- all movements

  born_by_flows : (ms : List Movement) → sum_by (λ m. entering_lot m lot) ms ≡ sum_by (moved flow.Received lot) ms + sum_by (moved flow.Produced lot) ms + sum_by (moved flow.SplitIn lot) ms + sum_by (moved flow.MergedIn lot) ms
  born_by_flows [] = refl
  born_by_flows (m ∷ ms) = omega (arith, enters_so m, born_by_flows ms, sum_by-cons (λ m. entering_lot m lot) m ms, sum_by-cons (moved flow.Received lot) m ms, sum_by-cons (moved flow.Produced lot) m ms, sum_by-cons (moved flow.SplitIn lot) m ms, sum_by-cons (moved flow.MergedIn lot) m ms)

  left_by_flows : (ms : List Movement) → sum_by (λ m. leaving_lot m lot) ms ≡ sum_by (moved flow.Consumed lot) ms + sum_by (moved flow.Scrapped lot) ms + sum_by (moved flow.SplitOut lot) ms + sum_by (moved flow.MergedOut lot) ms
  left_by_flows [] = refl
  left_by_flows (m ∷ ms) = omega (arith, leaves_so m, left_by_flows ms, sum_by-cons (λ m. leaving_lot m lot) m ms, sum_by-cons (moved flow.Consumed lot) m ms, sum_by-cons (moved flow.Scrapped lot) m ms, sum_by-cons (moved flow.SplitOut lot) m ms, sum_by-cons (moved flow.MergedOut lot) m ms)

module _ (s : State) (lot : List ℕ) where
  pub entered_is_born : entered_in_all (flows_of s lot) ≡ born_of s.movements lot
  unfolding born_of
  entered_is_born = sym (born_by_flows lot s.movements)

  pub left_is_left : left_in_all (flows_of s lot) ≡ left_of s.movements lot
  unfolding left_of
  left_is_left = sym (left_by_flows lot s.movements)

  pub closes : DecisionInvariant s → entered_in_all (flows_of s lot) ≡ left_in_all (flows_of s lot) + sum_by (λ r. r.stock) (sublots_of s lot)
  closes sound = let stock = balanced s sound lot in omega (arith, stock, entered_is_born, left_is_left)
