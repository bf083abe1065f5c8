-- Recalls stay valid.
use Rattle.std.proofs.Common.{◌≡◌, ◌∙◌, ◌≤◌, ℕ, false, List, Option, Some, None, find, is_some, refl, ap, arith}
use Rattle.plant_base.specs.{HasLiftingValues, State, same, put, lot_order, recall_order, lot_at, Lifting, Lot, Recall, Stamp}
use Rattle.plant_view.proofs.ListLemmas.{found_keeps, all_weaker, all_put}
use Rattle.plant_view.specs.DecisionInvariant.{DecisionInvariant}
use Rattle.plant_view.proofs.CommandsPreserveInvariant.{lot_stays}
use Rattle.plant_rules.specs.{lifted, with_lifted}
use Rattle.plant_invariant.specs.{IsLiftedBetween, IsValidRecall, AreValidRecalls}

lifted_later : (opened at now : ℕ) → at ≤ now → (o : Option Lifting) → IsLiftedBetween opened at o → IsLiftedBetween opened now o
lifted_later opened at now on None between = tt
lifted_later opened at now on (Some l) between = (between.0, omega (arith, between.1, on))

-- at a later moment
pub recalls_later : (lots : List Lot) (at now : ℕ) → at ≤ now → (rs : List Recall) → AreValidRecalls at lots rs → AreValidRecalls now lots rs
recalls_later lots at now on rs valid = all_weaker (IsValidRecall at lots) (IsValidRecall now lots) (λ r g. record {
  values = g.values;
  lot = g.lot;
  past = omega (arith, g.past, on);
  lifting = lifted_later r.at at now on r.lifting g.lifting;
}) rs valid

-- with a new lot
pub recalls_with_lot : (s : State) → DecisionInvariant s → (r : Lot) → is_some (lot_at s r.id) ≡ false → (at : ℕ) (rs : List Recall) → AreValidRecalls at s.lots rs → AreValidRecalls at (put lot_order r s.lots) rs
recalls_with_lot s sound r none at rs valid = all_weaker (IsValidRecall at s.lots) (IsValidRecall at (put lot_order r s.lots)) (λ q g. record {
  values = g.values;
  lot = ap is_some (lot_stays s sound r none q.lot g.lot) ∙ g.lot;
  past = g.past;
  lifting = g.lifting;
}) rs valid

-- with one of them lifted, where it is there
pub recalls_lifted : (lots : List Lot) (at : ℕ) (t : Stamp) → at ≤ t.at → HasLiftingValues (record { at = t.at; by = t.by; note = t.note }) → (rs : List Recall) → AreValidRecalls at lots rs → (id : List ℕ)
    → AreValidRecalls t.at lots (with_lifted t (find (λ r. same r.id id) rs) rs)
recalls_lifted lots at t on reported rs valid id = by (find (λ r. same r.id id) rs) refl
  where
    later : AreValidRecalls t.at lots rs
    later = recalls_later lots at t.at on rs valid

    by : (o : Option Recall) → find (λ r. same r.id id) rs ≡ o → AreValidRecalls t.at lots (with_lifted t o rs)
    by None e = later
    by (Some r) e =
        let g = found_keeps (IsValidRecall at lots) (λ (q : Recall). same q.id id) rs r valid e in
        all_put recall_order (IsValidRecall t.at lots) (lifted t r) rs (record {
          values = record { id = g.values.id; lot = g.values.lot; at = g.values.at; by = g.values.by; note = g.values.note; lifting = reported };
          lot = g.lot;
          past = omega (arith, g.past, on);
          lifting = (omega (arith, g.past, on), omega arith);
        }) later
