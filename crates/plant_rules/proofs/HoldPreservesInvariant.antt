-- A hold, and one that is taken away, keep a state consistent.
use Rattle.std.proofs.Common.{◌≡◌, ℕ, true, List, is_some, not, ◌&&◌}
use Rattle.std.specs.List.{AllByRecursion}
use Rattle.std.specs.List.Sorted.{IsStrictlySortedBy}
use Rattle.std.specs.Cmp.{IsTotalOrder}
use Rattle.std.proofs.lemmas.Cmp.{then_total, on_total, nat_list_cmp_total}
use Rattle.std.proofs.lemmas.List.Kept.{IsStrictlySortedBy-filter}
use Rattle.plant_base.specs.{State, same, hold_order, recall_order, lot_at, Hold, HoldLot, Recall, Receipt, Stamp, UnholdLot}
use Rattle.plant_view.proofs.ListLemmas.{all_put, sorted_put, all_filtered}
use Rattle.plant_rules.specs.{hold, unhold}
use Rattle.plant_view.specs.DecisionInvariant.{DecisionInvariant}

pub hold_order_total : IsTotalOrder hold_order
hold_order_total = then_total (on_total (λ h. h.lot) nat_list_cmp_total) (on_total (λ h. h.id) nat_list_cmp_total)

-- ---- holds, recalls and receipts

-- no other row names them
pub with_bars : (s : State) → DecisionInvariant s → (seq at : ℕ) (holds : List Hold) (recalls : List Recall) (receipts : List Receipt)
    → IsStrictlySortedBy hold_order holds → AllByRecursion (λ h. is_some (lot_at s h.lot) ≡ true) holds → IsStrictlySortedBy recall_order recalls
    → DecisionInvariant (record s { seq = seq; at = at; holds = holds; recalls = recalls; receipts = receipts })
with_bars s sound seq at holds recalls receipts sorted placed recalls_sorted = record {
  catalogue = sound.catalogue;
  recipes = sound.recipes;
  production = sound.production;
  stock = sound.stock;
  genealogy = sound.genealogy;
  bars = record { holds = sorted; placed = placed; recalls = recalls_sorted };
}

pub hold_preserves_invariant : (s : State) → DecisionInvariant s → (t : Stamp) (c : HoldLot) → is_some (lot_at s c.lot) ≡ true → DecisionInvariant (hold s t c)
hold_preserves_invariant s sound t c known =
    let r : Hold = record { lot = c.lot; id = c.hold; at = t.at; by = t.by; note = t.note } in
    with_bars s sound _ t.at _ s.recalls s.receipts
    (sorted_put hold_order hold_order_total r s.holds sound.bars.holds)
    (all_put hold_order (λ (h : Hold). is_some (lot_at s h.lot) ≡ true) r s.holds known sound.bars.placed)
    sound.bars.recalls

pub unhold_preserves_invariant : (s : State) → DecisionInvariant s → (t : Stamp) (c : UnholdLot) → DecisionInvariant (unhold s t c)
unhold_preserves_invariant s sound t c =
    let stays = λ (h : Hold). not (same h.lot c.lot && same h.id c.hold) in
    with_bars s sound _ t.at _ s.recalls s.receipts
    (IsStrictlySortedBy-filter hold_order stays s.holds sound.bars.holds)
    (all_filtered (λ (h : Hold). is_some (lot_at s h.lot) ≡ true) stays s.holds sound.bars.placed)
    sound.bars.recalls
