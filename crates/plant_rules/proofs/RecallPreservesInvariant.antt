-- A recall, and one that is lifted, keep a state consistent.
use Rattle.std.proofs.Common.{ℕ, List, Option, Some, None}
use Rattle.std.specs.List.Sorted.{IsStrictlySortedBy}
use Rattle.std.specs.Cmp.{IsTotalOrder}
use Rattle.std.proofs.lemmas.Cmp.{on_total, nat_list_cmp_total}
use Rattle.plant_base.specs.{State, recall_order, recall_at, LiftRecall, Recall, RecallLot, Stamp}
use Rattle.plant_view.proofs.ListLemmas.{sorted_put}
use Rattle.plant_rules.specs.{opened, recall, lifted, with_lifted, lift}
use Rattle.plant_view.specs.DecisionInvariant.{DecisionInvariant}
use Rattle.plant_rules.proofs.HoldPreservesInvariant.{with_bars}

recall_order_total : IsTotalOrder recall_order
recall_order_total = on_total (λ r. r.id) nat_list_cmp_total

with_recalls : (s : State) → DecisionInvariant s → (seq at : ℕ) (recalls : List Recall) → IsStrictlySortedBy recall_order recalls → DecisionInvariant (record s { seq = seq; at = at; recalls = recalls })
with_recalls s sound seq at recalls sorted = with_bars s sound seq at s.holds recalls s.receipts sound.bars.holds sound.bars.placed sorted

pub recall_preserves_invariant : (s : State) → DecisionInvariant s → (t : Stamp) (c : RecallLot) → DecisionInvariant (recall s t c)
recall_preserves_invariant s sound t c = with_recalls s sound _ t.at _ (sorted_put recall_order recall_order_total (opened t c) s.recalls sound.bars.recalls)

still_sorted : (t : Stamp) (o : Option Recall) (rs : List Recall) → IsStrictlySortedBy recall_order rs → IsStrictlySortedBy recall_order (with_lifted t o rs)
still_sorted t None rs sorted = sorted
still_sorted t (Some r) rs sorted = sorted_put recall_order recall_order_total (lifted t r) rs sorted

pub lift_preserves_invariant : (s : State) → DecisionInvariant s → (t : Stamp) (c : LiftRecall) → DecisionInvariant (lift s t c)
lift_preserves_invariant s sound t c = with_recalls s sound _ t.at _ (still_sorted t (recall_at s c.recall) s.recalls sound.bars.recalls)
