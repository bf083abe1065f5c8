-- Rows that were read represent the tables that were loaded.
use Rattle.std.proofs.Common.{◌≡◌, sym, ap, ◌∙◌, refl, ℕ, zero, suc, ◌+◌, ◌<◌, ◌≤◌, true, List, [], ◌∷◌, length, map, Option, Some, None, is_some, slice_get, slice_index_or, arith, filter_map}
use Rattle.std.specs.Bool.{⊤}
use Rattle.std.specs.List.{AllByRecursion, cons_option}
use Rattle.std.proofs.lemmas.Bool.{false≢true}
use Rattle.plant_base.specs.{is_there, Meta}
use Rattle.plant_tables_columns.specs.TableColumns.{row_of_meta, row_of_recipe, row_of_master_line, row_of_job, row_of_batch, row_of_control_line, row_of_event, row_of_lot, row_of_sublot, row_of_booked, row_of_movement, row_of_hold, row_of_edge, row_of_receipt, row_of_stated, row_of_recall, row_of_mark, only_meta, recipe_from, master_line_from, job_from, batch_from, control_line_from, batch_event_from, lot_from, sublot_from, booked_from, hold_from, edge_from, receipt_from, stated_from, mark_from}
use Rattle.plant_tables_columns.specs.PlainColumns.{row_of_class, row_of_definition, class_from, definition_from}
use Rattle.plant_tables.specs.{rows_of, contents_of, table_defs_of}
use Rattle.sqlite.specs.Order.{Row}
use Rattle.sql_tables.specs.{TableDef}
use Rattle.std.proofs.lemmas.Option.{slice_get_within}
use Rattle.plant_tables.specs.{contents_loaded, Rows, rows_from, tables_in, AreWhole}
use Rattle.plant_tables.specs.declared.loaded.Loaded.{Loaded}
use Rattle.plant_tables_columns.specs.{movement_from, recall_from}
use Rattle.plant_tables_columns.proofs.MovementColumns.{movement_back}
use Rattle.plant_tables_columns.proofs.RecallColumns.{recall_back}
use Rattle.plant_tables_columns.proofs.RowLaws.{meta_reads, class_reads, definition_reads, recipe_reads, master_line_reads, job_reads, batch_reads, control_line_reads, event_reads, lot_reads, sublot_reads, booked_reads, hold_reads, edge_reads, receipt_reads, stated_reads, mark_reads}
use Rattle.plant_tables.proofs.AllRowsDecoded.{every, all_back}
use Rattle.plant_tables.proofs.EachTable.{AreStored, AreFrom, rows_back, all_stored}
use Rattle.plant_tables.proofs.TablesInSchemas.{few_table_defs}

-- ---- rows whose columns fit, as those of movements their kind, and those of recalls their state

module _ {R T : Type 0} (meant : R → Option T) (stored : R → Row) (written : T → Row) (back : (r : R) (t : T) → meant r ≡ Some t → stored r ≡ written t) where
  fitted : (rs : List R) → AllByRecursion (λ r. is_some (meant r) ≡ true) rs → map stored rs ≡ map written (filter_map meant rs)
  fitted [] all = refl
  fitted (r ∷ rs) all = go (meant r) refl all.0 (fitted rs all.1)
    where
      go : (o : Option T) → meant r ≡ o → is_some o ≡ true → map stored rs ≡ map written (filter_map meant rs) → map stored (r ∷ rs) ≡ map written (cons_option (meant r) (filter_map meant rs))
      go None e is more = absurd (false≢true is)
      go (Some t) e is more = (λ i. back r t e i ∷ more i) ∙ ap (λ o. map written (cons_option o (filter_map meant rs))) (sym e)

-- ---- all tables

meta_back : (rows : List Row) (r : Meta) → only_meta rows ≡ Some r → rows ≡ row_of_meta r ∷ []
unfolding only_meta
meta_back [] r h = absurd (cc)
meta_back (x ∷ []) r h = ap (λ row. row ∷ []) (meta_reads.back x r h tt)
meta_back (x ∷ y ∷ xs) r h = absurd (cc)

pub are_stored : (x : Loaded) (r : Rows) → rows_from x ≡ Some r → AreWhole r → AreStored x r
are_stored x r h whole =
    let read = rows_back x r h in
    record {
      meta = meta_back _ r.meta read.meta;
      classes = all_back class_from row_of_class (λ _. ⊤) class_reads.back _ r.classes read.classes (every r.classes);
      definitions = all_back definition_from row_of_definition (λ _. ⊤) definition_reads.back _ r.definitions read.definitions (every r.definitions);
      recipes = all_back recipe_from row_of_recipe (λ _. ⊤) recipe_reads.back _ r.recipes read.recipes (every r.recipes);
      master_lines = all_back master_line_from row_of_master_line (λ l. 1 ≤ l.number) master_line_reads.back _ r.master_lines read.master_lines whole.master_lines;
      jobs = all_back job_from row_of_job (λ _. ⊤) job_reads.back _ r.jobs read.jobs (every r.jobs);
      batches = all_back batch_from row_of_batch (λ _. ⊤) batch_reads.back _ r.batches read.batches (every r.batches);
      control_lines = all_back control_line_from row_of_control_line (λ l. 1 ≤ l.number) control_line_reads.back _ r.control_lines read.control_lines whole.control_lines;
      events = all_back batch_event_from row_of_event (λ _. ⊤) event_reads.back _ r.events read.events (every r.events);
      lots = all_back lot_from row_of_lot (λ _. ⊤) lot_reads.back _ r.lots read.lots (every r.lots);
      sublots = all_back sublot_from row_of_sublot (λ _. ⊤) sublot_reads.back _ r.sublots read.sublots (every r.sublots);
      movements = all_back booked_from row_of_booked (λ m. 1 ≤ m.line) booked_reads.back _ r.movements read.movements whole.movement_lines ∙ fitted movement_from row_of_booked row_of_movement (λ b m e. ap row_of_booked (movement_back b m e)) r.movements whole.movements;
      holds = all_back hold_from row_of_hold (λ _. ⊤) hold_reads.back _ r.holds read.holds (every r.holds);
      edges = all_back edge_from row_of_edge (λ _. ⊤) edge_reads.back _ r.edges read.edges (every r.edges);
      receipts = all_back receipt_from row_of_receipt (λ r. is_there r.content ≡ true) receipt_reads.back _ r.receipts read.receipts whole.contents;
      recalls = all_back stated_from row_of_stated (λ _. ⊤) stated_reads.back _ r.recalls read.recalls (every r.recalls) ∙ fitted recall_from row_of_stated row_of_recall (λ b q e. ap row_of_stated (recall_back b q e)) r.recalls whole.recalls;
      marks = all_back mark_from row_of_mark (λ _. ⊤) mark_reads.back _ r.marks read.marks (every r.marks);
    }

at_place : (x : Loaded) (first : ℕ) (tables : List (List Row)) → AreFrom x first tables → (place : ℕ) → place < length tables → contents_loaded x (first + place) ≡ slice_index_or tables place []
at_place x first [] are place low = absurd (omega (arith, low))
at_place x first (rows ∷ more) are zero low = let same : first + 0 ≡ first = omega arith in ap (contents_loaded x) same ∙ are.0
at_place x first (rows ∷ more) are (suc place) low = let same : first + suc place ≡ suc first + place = omega arith in ap (contents_loaded x) same ∙ at_place x (suc first) more are.1 place (omega (arith, low))

-- Rows that were read from what was loaded, whose lines have numbers, whose movements have the columns of their kinds, whose
-- receipts have contents and whose recalls have the columns of their states, are the tables that were loaded.
pub represents_for : (x : Loaded) (r : Rows) → rows_from x ≡ Some r → AreWhole r → (schema place : ℕ) (table_def : TableDef) → slice_get (table_defs_of schema) place ≡ Some table_def → contents_loaded x place ≡ contents_of (tables_in r) place
represents_for x r h whole schema place table_def is =
    let s = are_stored x r h whole in
    let low : place < length (rows_of (tables_in r)) = (let within = slice_get_within (table_defs_of schema) place table_def is in omega (arith, within, few_table_defs schema)) in
    let same : 0 + place ≡ place = omega arith in
    ap (contents_loaded x) (sym same) ∙ at_place x 0 (rows_of (tables_in r)) (all_stored x r s) place low
