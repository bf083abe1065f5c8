-- The rows that were read are in the order of their keys.
use Rattle.std.proofs.Common.{◌≡◌, ◌∙◌, ℕ, nat_le, List, [], ◌∷◌, map, Bool, true, false, Some, None, refl, sym, subst, slice_get, Ordering, Less}
use Rattle.std.specs.List.{AllByRecursion}
use Rattle.std.specs.List.Sorted.{IsStrictlySortedBy}
use Rattle.sqlite.specs.Order.{Row}
use Rattle.plant_base.specs.{edge_order, mark_order, Recall, Receipt, class_order, definition_order, recipe_order, master_line_order, job_order, control_line_order, lot_order, hold_order, receipt_order, recall_order, event_order, movement_order}
use Rattle.plant_view.specs.{batch_row_order, sublot_order}
use Rattle.sql_queries.specs.Rises.{Rises}
use Rattle.plant_tables_columns.specs.{row_of_class, row_of_definition, row_of_recipe, row_of_master_line, row_of_job, row_of_batch, row_of_control_line, row_of_event, row_of_lot, row_of_sublot, row_of_movement, row_of_hold, row_of_receipt, row_of_recall}
use Rattle.sql_tables.specs.{TableDef}
use Rattle.sql_queries.specs.{key_order, comes_before, first_of}
use Rattle.sql_queries.proofs.ValueOrder.{key_total}
use Rattle.plant_tables.specs.{class_table, definition_table, recipe_table, recipe_line_table, job_table, batch_table, control_line_table, batch_event_table, lot_table, sublot_table, movement_table, hold_table, receipt_table, recall_table, table_defs_of}
use Rattle.plant_tables.proofs.TablesInSchemas.{receipt_place, recall_place, no_receipt_place, no_recall_place}
use Rattle.plant_tables.specs.{AreRising, contents_loaded, Loaded, Rows, rows_from, tables_in, AreWhole, AreInOrder}
use Rattle.plant_tables.proofs.KeysOfColumns.{by_text, by_number, by_text_number, by_two_texts, by_two_numbers, by_text_numbers}
use Rattle.plant_tables.proofs.SortedRowsAreUnique.{strictly_sorted}
use Rattle.plant_tables.proofs.AllRowsDecoded.{map_same}
use Rattle.plant_tables.proofs.RowsRepresentTables.{are_stored}

-- ---- from keys that rise to rows that do

module _ {R K : Type 0} (key : R → K) (order : R → R → Ordering) (cmp : K → K → Ordering) (agrees : (a b : R) → order a b ≡ cmp (key a) (key b)) where
  rows_after_cursor : (r : R) (rs : List R) → AllByRecursion (λ z. cmp (key r) z ≡ Less) (map key rs) → AllByRecursion (λ y. order r y ≡ Less) rs
  rows_after_cursor r [] all = tt
  rows_after_cursor r (y ∷ ys) all = (agrees r y ∙ all.0, rows_after_cursor r ys all.1)

  rows_rise : (rs : List R) → IsStrictlySortedBy cmp (map key rs) → IsStrictlySortedBy order rs
  unfolding IsStrictlySortedBy
  rows_rise [] sorted = tt
  rows_rise (r ∷ rs) sorted = (rows_after_cursor r rs sorted.0, rows_rise rs sorted.1)

-- the rows of a table that was loaded
module _ {R : Type 0} (written : R → Row) (table_def : TableDef) (order : R → R → Ordering) (by_key : (a b : R) → order a b ≡ key_order (first_of table_def.keys) (written a) (written b)) where
  table_rises : (rows : List Row) (rs : List R) → Rises (comes_before table_def) rows → rows ≡ map written rs → IsStrictlySortedBy order rs
  table_rises rows rs rise same =
      let keys = key_order (first_of table_def.keys) in
      let rising : IsStrictlySortedBy keys rows = subst (IsStrictlySortedBy keys) (map_same rows) (strictly_sorted (λ row. row) (comes_before table_def) keys (key_total (first_of table_def.keys)) (λ a b. refl) rows rise) in
      rows_rise written order keys by_key rs (subst (IsStrictlySortedBy keys) same rising)

-- ---- tables that later schemas add

none_stored : {R : Type 0} (written : R → Row) (rs : List R) → [] ≡ map written rs → rs ≡ []
none_stored written [] e = refl
none_stored written (r ∷ rs) e = absurd (cc)

-- where a schema has no table there are no rows
none_loaded : {R : Type 0} (written : R → Row) (schema : ℕ) (x : Loaded) (place : ℕ) (rs : List R) → AreRising schema x → slice_get (table_defs_of schema) place ≡ None → contents_loaded x place ≡ map written rs → rs ≡ []
none_loaded written schema x place rs rising none stored = none_stored written rs (sym (rising.no_more place none) ∙ stored)

pub receipts_none : (schema : ℕ) (x : Loaded) (rs : List Receipt) → AreRising schema x → contents_loaded x 14 ≡ map row_of_receipt rs → nat_le 3 schema ≡ false → rs ≡ []
receipts_none schema x rs rising stored below = none_loaded row_of_receipt schema x 14 rs rising (no_receipt_place schema below) stored

pub recalls_none : (schema : ℕ) (x : Loaded) (rs : List Recall) → AreRising schema x → contents_loaded x 15 ≡ map row_of_recall rs → nat_le 4 schema ≡ false → rs ≡ []
recalls_none schema x rs rising stored below = none_loaded row_of_recall schema x 15 rs rising (no_recall_place schema below) stored

-- the rows of a table that the schema has, or of one that it hasn't
module _ {R : Type 0} (written : R → Row) (table_def : TableDef) (order : R → R → Ordering) (by_key : (a b : R) → order a b ≡ key_order (first_of table_def.keys) (written a) (written b)) where
  added_rises : (schema : ℕ) (x : Loaded) (place : ℕ) (rs : List R) → AreRising schema x → contents_loaded x place ≡ map written rs
      → (keeps : Bool) → (keeps ≡ true → slice_get (table_defs_of schema) place ≡ Some table_def) → (keeps ≡ false → rs ≡ []) → IsStrictlySortedBy order rs
  unfolding IsStrictlySortedBy
  added_rises schema x place rs rising stored true at none = table_rises written table_def order by_key (contents_loaded x place) rs (rising.tables place table_def (at refl)) stored
  added_rises schema x place rs rising stored false at none = subst (IsStrictlySortedBy order) (sym (none refl)) tt

-- ---- all tables

pub in_order : (schema : ℕ) (x : Loaded) (r : Rows) → AreRising schema x → rows_from x ≡ Some r → AreWhole r → IsStrictlySortedBy edge_order r.edges → IsStrictlySortedBy mark_order r.marks → AreInOrder (tables_in r)
in_order schema x r rising read whole edges marks =
    let s = are_stored x r read whole in
    record {
      keyed = record {
        classes = table_rises row_of_class class_table class_order (λ a b. by_text a.id b.id) _ r.classes (rising.tables 1 class_table refl) s.classes;
        definitions = table_rises row_of_definition definition_table definition_order (λ a b. by_text a.id b.id) _ r.definitions (rising.tables 2 definition_table refl) s.definitions;
        recipes = table_rises row_of_recipe recipe_table recipe_order (λ a b. by_text_number a.header.recipe b.header.recipe a.header.version b.header.version) _ r.recipes (rising.tables 3 recipe_table refl) s.recipes;
        master_lines = table_rises row_of_master_line recipe_line_table master_line_order (λ a b. by_text_numbers a.recipe b.recipe a.version b.version a.number b.number) _ r.master_lines (rising.tables 4 recipe_line_table refl) s.master_lines;
        jobs = table_rises row_of_job job_table job_order (λ a b. by_text a.order.order b.order.order) _ r.jobs (rising.tables 5 job_table refl) s.jobs;
        batches = table_rises row_of_batch batch_table batch_row_order (λ a b. by_text a.batch.id b.batch.id) _ r.batches (rising.tables 6 batch_table refl) s.batches;
        control_lines = table_rises row_of_control_line control_line_table control_line_order (λ a b. by_text_number a.batch b.batch a.number b.number) _ r.control_lines (rising.tables 7 control_line_table refl) s.control_lines;
        lots = table_rises row_of_lot lot_table lot_order (λ a b. by_text a.id b.id) _ r.lots (rising.tables 9 lot_table refl) s.lots;
        sublots = table_rises row_of_sublot sublot_table sublot_order (λ a b. by_text_number a.lot b.lot a.number b.number) _ r.sublots (rising.tables 10 sublot_table refl) s.sublots;
        holds = table_rises row_of_hold hold_table hold_order (λ a b. by_two_texts a.lot b.lot a.id b.id) _ r.holds (rising.tables 12 hold_table refl) s.holds;
        edges = edges;
        receipts = added_rises row_of_receipt receipt_table receipt_order (λ a b. by_text a.reference b.reference) schema x 14 (tables_in r).receipts rising s.receipts (nat_le 3 schema) (receipt_place schema) (receipts_none schema x (tables_in r).receipts rising s.receipts);
        recalls = added_rises row_of_recall recall_table recall_order (λ a b. by_text a.id b.id) schema x 15 (tables_in r).recalls rising s.recalls (nat_le 4 schema) (recall_place schema) (recalls_none schema x (tables_in r).recalls rising s.recalls);
        marks = marks;
      };
      events = table_rises row_of_event batch_event_table event_order (λ a b. by_number a.seq b.seq) _ r.events (rising.tables 8 batch_event_table refl) s.events;
      movements = table_rises row_of_movement movement_table movement_order (λ a b. by_two_numbers a.seq b.seq a.line b.line) _ (tables_in r).movements (rising.tables 11 movement_table refl) s.movements;
    }
