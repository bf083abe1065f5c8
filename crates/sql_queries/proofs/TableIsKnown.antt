-- What is known of one table.
use Rattle.std.proofs.Common.{◌≡◌, ℕ, List, Some, slice_get}
use Rattle.sqlite.specs.Effect.{Database}
use Rattle.sqlite.specs.Table.{Table}
use Rattle.sqlite_rules.proofs.ListLemmas.{has_got}
use Rattle.sqlite_trees.specs.View.{IsShaped}
use Rattle.sqlite_trees.specs.declared.store.Shape.TheVariants as shape
use Rattle.sqlite.specs.Order.{Row}
use Rattle.sql_tables.specs.{TableDef, table_of, HasStoredRows}
use Rattle.sql_queries.specs.{IsRising, Lists}

-- a declared table's rows have integer rowids, which rise
pub shaped_at : (db : Database) (at : ℕ) (table : Table) → IsRising db → slice_get db.schema.tables at ≡ Some table → IsShaped shape.Table (db.trees table.tree)
shaped_at db at table rising is = rising.rises table (has_got db.schema.tables at table is)

-- a table has the rows that were read of it, as the writing side asks
pub listed_stands : (db : Database) (table_def : TableDef) (rows : List Row) → IsRising db → Lists db table_def rows → HasStoredRows db table_def rows
listed_stands db table_def rows rising lists = record {
  at = lists.at;
  tree = lists.tree;
  declared = lists.declared;
  shaped = shaped_at db lists.at (table_of table_def lists.tree) rising lists.declared.listed;
  same = lists.same;
}
