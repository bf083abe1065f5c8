-- What the reading of rows keeps.
use Rattle.std.specs.Prelude.{◌≡◌, ℕ, Some, slice_get}
use Rattle.sqlite.specs.Effect.{Database}
use Rattle.plant_base.specs.{Movement, Recall}
use Rattle.plant_view.specs.TableRows.{Tables}
use Rattle.sql_tables.specs.{TableDef}
use Rattle.plant_tables.specs.DeskTableDefs.{table_defs_of}
use Rattle.plant_tables.specs.DeskTables.{contents_of}
use Rattle.plant_tables.specs.Keyed.{HoldsTablesOf}
use Rattle.plant_tables.specs.KeyedRows.{LacksLater}
use Rattle.plant_tables.specs.Loading.{AreLoaded, contents_loaded}
use Rattle.plant_tables.specs.declared.loaded.Loaded.{Loaded}
use Rattle.plant_tables_columns.specs.{movement_from, booked_of, recall_from, stated_of, HasValidValues}
use Rattle.plant_tables.specs.DecodedTables.{AreWhole, AreInOrder}
use Rattle.plant_tables.specs.RowLists.{Rows, rows_from, tables_in, rows_in}

-- Rows whose lines have numbers, whose movements have the columns of their kinds, whose receipts have contents and whose
-- recalls have the columns of their states are the tables that were loaded.
abbrev pub RowsRepresentTables : Type 0
RowsRepresentTables = (x : Loaded) (r : Rows) → rows_from x ≡ Some r → AreWhole r → (schema place : ℕ) (table_def : TableDef) → slice_get (table_defs_of schema) place ≡ Some table_def
    → contents_loaded x place ≡ contents_of (tables_in r) place

-- What a database holds of the tables of a schema is read as it was written, where keys rise and each value obeys its rule.
abbrev pub AreReadAgain : Type 0
AreReadAgain = (schema : ℕ) (db : Database) (t : Tables) (x : Loaded) → HoldsTablesOf schema db t → LacksLater schema t → AreInOrder t → HasValidValues t → AreLoaded schema db x
    → rows_from x ≡ Some (rows_in t)

-- The rows of valid tables have numbers, the columns of their kinds and states, and contents.
abbrev pub AreWholeRows : Type 0
AreWholeRows = (t : Tables) → HasValidValues t → AreWhole (rows_in t)

-- The tables of the rows of tables are those.
abbrev pub AreSameTables : Type 0
AreSameTables = (t : Tables) → tables_in (rows_in t) ≡ t

-- The row that books a movement books that movement.
abbrev pub IsBookedAgain : Type 0
IsBookedAgain = (m : Movement) → movement_from (booked_of m) ≡ Some m

-- The recall that is decoded from a recall's row is that recall.
abbrev pub IsStatedAgain : Type 0
IsStatedAgain = (r : Recall) → recall_from (stated_of r) ≡ Some r
