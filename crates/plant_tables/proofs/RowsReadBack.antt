-- What was loaded of one table that a database has is read as its rows.
use Rattle.std.proofs.Common.{◌≡◌, refl, sym, ap, ◌∙◌, ℕ, List, [], ◌∷◌, map, Bool, true, false, Option, Some, None, slice_get, Ordering}
use Rattle.std.specs.List.{AllByRecursion}
use Rattle.std.specs.List.Sorted.{IsStrictlySortedBy}
use Rattle.sqlite.specs.Effect.{Database}
use Rattle.sqlite.specs.Order.{Row}
use Rattle.plant_view.specs.TableRows.{Tables}
use Rattle.sql_tables.specs.{TableDef, HasStoredRows}
use Rattle.plant_tables_columns.specs.TableColumns.{row_of_meta, only_meta}
use Rattle.plant_tables.specs.DeskTableDefs.{meta_table, table_defs_of}
use Rattle.plant_tables.specs.{contents_of, HoldsTablesOf}
use Rattle.sql_queries.specs.{key_order, first_of}
use Rattle.plant_tables.specs.{Loads, AreLoaded, contents_loaded}
use Rattle.plant_tables.specs.declared.loaded.Loaded.{Loaded}
use Rattle.plant_tables_columns.specs.{all_from}
use Rattle.plant_tables_columns.specs.ValidRows.{HasValidValues}
use Rattle.plant_tables.proofs.SortedRowsAreUnique.{sorted_keys}
use Rattle.plant_tables.proofs.AllRowsDecoded.{map_same, all_again, loaded_rows}
use Rattle.plant_tables_columns.proofs.RowLaws.{meta_reads}

-- ---- one table

module _ {R T : Type 0} (row_from : Row → Option T) (written : R → Row) (made : R → T) (P : R → Type 0) (again : (r : R) → P r → row_from (written r) ≡ Some (made r))
    (table_def : TableDef) (order : R → R → Ordering) (by_key : (a b : R) → order a b ≡ key_order (first_of table_def.keys) (written a) (written b)) where
  pub table_again : (db : Database) (rows : List Row) (rs : List R) → Loads db table_def rows → HasStoredRows db table_def (map written rs) → IsStrictlySortedBy order rs → AllByRecursion P rs → all_from row_from rows ≡ Some (map made rs)
  table_again db rows rs loads has_rows sorted valid =
      ap (all_from row_from) (loaded_rows db table_def rows (map written rs) loads has_rows (sorted_keys written order (key_order (first_of table_def.keys)) by_key rs sorted)) ∙ all_again row_from written made P again rs valid

-- where they are read as what was written
module _ {R : Type 0} (row_from : Row → Option R) (written : R → Row) (P : R → Type 0) (again : (r : R) → P r → row_from (written r) ≡ Some r)
    (table_def : TableDef) (order : R → R → Ordering) (by_key : (a b : R) → order a b ≡ key_order (first_of table_def.keys) (written a) (written b)) where
  pub same_again : (db : Database) (rows : List Row) (rs : List R) → Loads db table_def rows → HasStoredRows db table_def (map written rs) → IsStrictlySortedBy order rs → AllByRecursion P rs → all_from row_from rows ≡ Some rs
  same_again db rows rs loads has_rows sorted valid = table_again row_from written (λ r. r) P again table_def order by_key db rows rs loads has_rows sorted valid ∙ ap Some (map_same rs)

module _ (schema : ℕ) (db : Database) (t : Tables) (holds : HoldsTablesOf schema db t) (x : Loaded) (are : AreLoaded schema db x) where
  pub only_meta_again : HasValidValues t → only_meta (contents_loaded x 0) ≡ Some t.meta
  unfolding only_meta IsStrictlySortedBy
  only_meta_again valid = ap only_meta (loaded_rows db meta_table (contents_loaded x 0) (row_of_meta t.meta ∷ []) (are.tables 0 meta_table refl) (holds.each 0 meta_table refl) (tt, tt)) ∙ meta_reads.again t.meta valid.meta tt

  -- in a schema that doesn't keep a table there are no rows of it
  pub later_read_again : {T : Type 0} (row_from : Row → Option T) (place : ℕ) (table_def : TableDef) (rs : List T) (keeps : Bool) → (keeps ≡ true → slice_get (table_defs_of schema) place ≡ Some table_def) → (keeps ≡ false → slice_get (table_defs_of schema) place ≡ None) → (keeps ≡ false → rs ≡ [])
      → (Loads db table_def (contents_loaded x place) → HasStoredRows db table_def (contents_of t place) → all_from row_from (contents_loaded x place) ≡ Some rs) → all_from row_from (contents_loaded x place) ≡ Some rs
  later_read_again row_from place table_def rs true at free none again = again (are.tables place table_def (at refl)) (holds.each place table_def (at refl))
  later_read_again row_from place table_def rs false at free none again = ap (all_from row_from) (are.no_more place (free refl)) ∙ ap Some (sym (none refl))
