-- What a reading of a definition's table returns.
use Rattle.std.specs.Prelude.{ℕ, ◌<◌, ◌^◌, List, filter, map, IsPermutation}
use Rattle.sqlite.specs.Order.{Row}
use Rattle.sqlite.specs.Effect.{Database}
use Rattle.sql_tables.specs.{TableDef, columns_of, IsDeclared}
use Rattle.sql_queries.specs.Found.{has_values}

-- The definition's table is declared, and these are its rows, each once, in some order.
pub record Lists (db : Database) (table_def : TableDef) (rows : List Row) : Type 0 where
  pub at : ℕ
  pub tree : ℕ
  pub declared : IsDeclared db.schema table_def at tree
  pub low : tree < 2 ^ 31
  pub same : IsPermutation rows (map (columns_of table_def) (db.trees tree))

-- The definition's table is declared, and these are its rows with the given values in the columns with these indexes, each once, in some order.
pub record Finds (db : Database) (table_def : TableDef) (column_indexes : List ℕ) (values : Row) (rows : List Row) : Type 0 where
  pub at : ℕ
  pub tree : ℕ
  pub declared : IsDeclared db.schema table_def at tree
  pub low : tree < 2 ^ 31
  pub same : IsPermutation rows (filter (has_values column_indexes values) (map (columns_of table_def) (db.trees tree)))
