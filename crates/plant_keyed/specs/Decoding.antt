-- The rows that a lookup finds.
use Rattle.std.specs.Prelude.{◌≡◌, ℕ, List, Option, Some, slice_get}
use Rattle.sqlite.specs.Effect.{Database}
use Rattle.sqlite.specs.Order.{Row}
use Rattle.sql_tables.specs.{TableDef}
use Rattle.sql_queries.specs.{comes_before, Finds}
use Rattle.sql_queries.specs.Rises.{Rises}
use Rattle.plant_tables_columns.specs.{all_from}

-- These rows of the desk were read of the table's rows that have the values in these columns, by the table's first key.
pub record AreFound (db : Database) (table_def : TableDef) {R : Type 0} (row_from : Row → Option R) (places : List ℕ) (values : Row) (rows : List R) : Type 0 where
  pub stored : List Row
  pub finds : Finds db table_def places values stored
  pub rising : Rises (comes_before table_def) stored
  pub read : all_from row_from stored ≡ Some rows

-- This is the first of them, where there is one.
pub record IsFirstFound (db : Database) (table_def : TableDef) {R : Type 0} (row_from : Row → Option R) (places : List ℕ) (values : Row) (row : Option R) : Type 0 where
  pub rows : List R
  pub found : AreFound db table_def row_from places values rows
  pub first : row ≡ slice_get rows 0

-- The rows were read of some stored rows, the row of one.
abbrev pub AreDecoded : {R : Type 0} → (Row → Option R) → List R → Type 0
AreDecoded row_from rows = (stored : List Row) × (all_from row_from stored ≡ Some rows)

abbrev pub IsDecoded : {R : Type 0} → (Row → Option R) → R → Type 0
IsDecoded row_from row = (stored : Row) × (row_from stored ≡ Some row)
