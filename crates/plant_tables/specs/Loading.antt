-- What is loaded of the tables of a schema.
use Rattle.std.specs.Prelude.{◌≡◌, ℕ, List, [], map, Some, None, slice_get, slice_index_or}
use Rattle.sqlite.specs.Effect.{Database}
use Rattle.sqlite.specs.Order.{Row}
use Rattle.sql_tables.specs.{TableDef, Contents}
use Rattle.sql_queries.specs.{comes_before, Lists}
use Rattle.sql_queries.specs.Rises.{Rises}
use Rattle.plant_tables.specs.DeskTableDefs.{table_defs_of}
use Rattle.plant_tables.specs.declared.loaded.Loaded.{Loaded}

-- the table's rows are those of the list, each once, and the list rises by the key
pub record Loads (db : Database) (table_def : TableDef) (list : List Row) : Type 0 where
  pub rows : Lists db table_def list
  pub rising : Rises (comes_before table_def) list

-- the rows of each table, by the index of its definition
abbrev pub contents_loaded : Loaded → Contents
contents_loaded x place = slice_index_or (map (λ table. table.items) x.tables.items) place []

-- the tables of the other indexes are the same
abbrev pub HasOthers : ℕ → Loaded → Loaded → Type 0
HasOthers place x y = (at : ℕ) → ¬ (at ≡ place) → contents_loaded y at ≡ contents_loaded x at

-- every row of every table of the schema, and nothing else
pub record AreLoaded (schema : ℕ) (db : Database) (x : Loaded) : Type 0 where
  pub tables : (place : ℕ) (table_def : TableDef) → slice_get (table_defs_of schema) place ≡ Some table_def → Loads db table_def (contents_loaded x place)
  pub no_more : (place : ℕ) → slice_get (table_defs_of schema) place ≡ None → contents_loaded x place ≡ []

-- each list rises by its key, whatever the store did, and there are no more
pub record AreRising (schema : ℕ) (x : Loaded) : Type 0 where
  pub tables : (place : ℕ) (table_def : TableDef) → slice_get (table_defs_of schema) place ≡ Some table_def → Rises (comes_before table_def) (contents_loaded x place)
  pub no_more : (place : ℕ) → slice_get (table_defs_of schema) place ≡ None → contents_loaded x place ≡ []
