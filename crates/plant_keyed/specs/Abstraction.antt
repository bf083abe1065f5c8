-- The state that a database shows: the rows of the desk that are decoded from its tables' rows, whatever their order.
use Rattle.std.specs.Prelude.{ℕ, List, [], map, Option, Some, None, unwrap_or, slice_get, filter_map}
use Rattle.std.specs.declared.cmp.Ordering.{Ordering}
use Rattle.sqlite.specs.Effect.{Database}
use Rattle.sqlite.specs.Order.{Row}
use Rattle.sqlite.specs.Table.{Table}
use Rattle.sqlite_schema.specs.Names.{table_named}
use Rattle.plant_base.specs.PlantState.{newest_schema}
use Rattle.plant_base.specs.{Meta, Position}
use Rattle.sql_tables.specs.{TableDef, columns_of}
use Rattle.plant_tables.specs.DeskTableDefs.{meta_table}
use Rattle.plant_tables_columns.specs.TableColumns.{only_meta}
use Rattle.plant_questions.specs.{in_order}

abbrev pub rows_under : Database → TableDef → Option Table → List Row
rows_under db table_def None = []
rows_under db table_def (Some t) = map (columns_of table_def) (db.trees t.tree)

abbrev pub table_under : Database → Option ℕ → Option Table
table_under db None = None
table_under db (Some at) = slice_get db.schema.tables at

-- the rows of the definition's table, none where there is no such table
unfoldable pub rows_at : Database → TableDef → List Row
rows_at db table_def = rows_under db table_def (table_under db (table_named db.schema table_def.name))

-- the rows of the desk that are decoded from them, by their keys
abbrev pub abstract_rows : {R : Type 0} → (R → R → Ordering) → (Row → Option R) → Database → TableDef → List R
abstract_rows order row_from db table_def = in_order order (filter_map row_from (rows_at db table_def))

-- the number of accepted commands and the moment of the last, by the one row of table meta
abbrev pub position_of_meta : Option Meta → Position
position_of_meta meta = (unwrap_or meta (record { schema = newest_schema; position = record { seq = 0; at = 0 } })).position

abbrev pub abstract_position : Database → Position
abstract_position db = position_of_meta (only_meta (rows_at db meta_table))
