-- The rows of a recall, and of one that is lifted, make the tables of the next state.
use Rattle.std.proofs.Common.{◌≡◌, ◌∙◌, false, List, map, Option, Some, is_some, refl, sym, ap}
use Rattle.plant_base.specs.{State, newest_schema, same, recall_at, LiftRecall, Recall, RecallLot, Stamp}
use Rattle.plant_trace.specs.{Lists, IsRecalled, Node}
use Rattle.plant_view.specs.{edges_of, mark_on, marks, tables_of, changed_all}
use Rattle.plant_view.specs.DecisionInvariant.{DecisionInvariant}
use Rattle.plant_view.proofs.MarkChanges.{come_with_recall, go_with_lift}
use Rattle.plant_view.proofs.MarksAfterMovement.{marks_changed}
use Rattle.plant_view.proofs.ListLemmas.{none_passes}
use Rattle.plant_rules.specs.{opened, recall, recall_rows, lifted, with_lifted, lift, lift_rows}

pub recall_tables : (s : State) (t : Stamp) (c : RecallLot) (nodes : List Node) → is_some (recall_at s c.recall) ≡ false → Lists (IsRecalled (edges_of s) c.lot) nodes
    → changed_all (recall_rows s.seq t c nodes) (tables_of newest_schema s) ≡ tables_of newest_schema (recall s t c)
recall_tables s t c nodes none lists =
    marks_changed (map (mark_on c.recall) nodes) _
    ∙ (λ i. record (tables_of newest_schema (recall s t c)) { marks = sym (come_with_recall s.recalls (edges_of s) (opened t c) nodes (none_passes (λ r. same r.id c.recall) s.recalls none) refl lists) i })

pub lift_tables : (s : State) → DecisionInvariant s → (t : Stamp) (c : LiftRecall) (r : Recall) → recall_at s c.recall ≡ Some r
    → changed_all (lift_rows s.seq t r) (tables_of newest_schema s) ≡ tables_of newest_schema (lift s t c)
lift_tables s sound t c r at =
    λ i. record (tables_of newest_schema (lift s t c)) {
      recalls = with_lifted t (sym at i) s.recalls;
      marks = (sym (go_with_lift s.recalls (edges_of s) (lifted t r) sound.bars.recalls refl) ∙ ap (λ (o : Option Recall). marks (with_lifted t o s.recalls) (edges_of s)) (sym at)) i;
    }
