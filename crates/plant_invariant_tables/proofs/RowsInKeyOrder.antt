-- The rows of the tables of a valid state are in the order of their keys.
use Rattle.std.proofs.Common.{ℕ, Bool, true, false, List, [], nat_le, if◌then◌else◌, Ordering}
use Rattle.std.specs.List.Sorted.{IsStrictlySortedBy}
use Rattle.plant_base.specs.{mark_order, State, receipt_order, recall_order}
use Rattle.plant_view.specs.{edges_of, marks, tables_of, sublot_order, sublot_row, batch_row_order, batch_row}
use Rattle.plant_view.proofs.EdgeRowOrder.{edges_sorted}
use Rattle.plant_view.proofs.MarkChanges.{marks_sorted}
use Rattle.plant_view.proofs.ListLemmas.{sorted_mapped}
use Rattle.plant_invariant.specs.StateInvariant.{StateInvariant}
use Rattle.plant_tables.specs.{AreKeyed}

-- the rows, or none in a schema that keeps none
kept_sorted : {R : Type 0} (order : R → R → Ordering) (keeps : Bool) (rows : List R) → IsStrictlySortedBy order rows → IsStrictlySortedBy order (if keeps then rows else [])
unfolding IsStrictlySortedBy
kept_sorted order true rows sorted = sorted
kept_sorted order false rows sorted = tt

pub keyed : (schema : ℕ) (s : State) → StateInvariant s → AreKeyed (tables_of schema s)
keyed schema s valid =
    let sound = valid.sound in
    record {
      classes = sound.catalogue.classes;
      definitions = sound.catalogue.definitions;
      recipes = sound.recipes.sorted;
      master_lines = sound.recipes.rows_sorted;
      jobs = sound.production.orders.sorted;
      batches = sorted_mapped batch_row_order (batch_row s.control_lines s.events) s.batches sound.production.batches.sorted;
      control_lines = sound.production.batches.control_sorted;
      lots = sound.stock.lots;
      sublots = sorted_mapped sublot_order (sublot_row s.movements) s.places sound.stock.places;
      holds = sound.bars.holds;
      edges = edges_sorted schema s.movements;
      receipts = kept_sorted receipt_order (nat_le 3 schema) s.receipts valid.receipts.sorted;
      recalls = kept_sorted recall_order (nat_le 4 schema) s.recalls sound.bars.recalls;
      marks = kept_sorted mark_order (nat_le 4 schema) (marks s.recalls (edges_of s)) (marks_sorted s.recalls (edges_of s));
    }
