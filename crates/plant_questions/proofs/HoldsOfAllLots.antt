-- The holds after a cursor are the further ones of its lot, and those of the lots after it.
use Rattle.std.proofs.Common.{◌≡◌, ◌∙◌, ℕ, List, true, ◌&&◌, ◌||◌, Some, refl, ap, filter, is_eq, is_gt, Ordering, Less, Equal, Greater}
use Rattle.std.proofs.Math.Bool.{or-false}
use Rattle.std.proofs.lemmas.Cmp.{then_total, on_total, nat_list_cmp_total}
use Rattle.std.specs.Cmp.{IsTotalOrder}
use Rattle.std.specs.Cmp.Lexicographic.{texts_ties}
use Rattle.std.specs.Ordering.{ordering_then}
use Rattle.std.specs.Set.{sorted_merge}
use Rattle.plant_base.specs.{State, hold_order, id_cmp, Hold}
use Rattle.plant_view.specs.DecisionInvariant.{DecisionInvariant}
use Rattle.plant_questions.specs.{all_holds, holds_after, holds_on, is_after, is_hold_after, is_hold_on}
use Rattle.plant_questions.specs.declared.cursors.Cursor.{Cursor}
use Rattle.plant_questions.proofs.MergedLists.{merged_filters}

hold_order_total : IsTotalOrder hold_order
hold_order_total = then_total (on_total (λ (h : Hold). h.lot) nat_list_cmp_total) (on_total (λ (h : Hold). h.id) nat_list_cmp_total)

either : (o p : Ordering) → ((is_eq o && is_gt p) || is_gt o) ≡ is_gt (ordering_then o p)
either Less p = refl
either Equal p = or-false (is_gt p)
either Greater p = refl

after_place : (place : Cursor (List ℕ) (List ℕ)) (h : Hold) → (is_hold_on place.first (Some place.second) h || is_after (Some place.first) h.lot) ≡ is_hold_after (Some place) h
after_place place h =
    ap (λ b. (b && is_after (Some place.second) h.id) || is_after (Some place.first) h.lot) (texts_ties h.lot place.first)
    ∙ either (id_cmp h.lot place.first) (id_cmp h.id place.second)

pub all_merged : (s : State) (place : Cursor (List ℕ) (List ℕ)) → DecisionInvariant s → sorted_merge hold_order true (holds_on s place.first (Some place.second)) (holds_after s (Some place.first)) ≡ all_holds s (Some place)
all_merged s place sound =
    merged_filters hold_order hold_order_total (is_hold_on place.first (Some place.second)) (λ h. is_after (Some place.first) h.lot) s.holds sound.bars.holds
    ∙ (λ i. filter (λ h. after_place place h i) s.holds)
