use Rattle.std.proofs.Common.{◌≡◌, ◌<◌, ℕ, slice_index_or}
use Rattle.sqlite_schema.specs.declared.schema.Column.{Column}
use Rattle.sql_tables.specs.declared.table_def.ColumnDef.{ColumnDef}
use Rattle.sql_tables.specs.{column_of}
use Rattle.sql_tables.proofs.stored_rows.are_columns.Given as goal

abbrev pub invariant-loop-at : goal.invariant-loop-at
invariant-loop-at l = (k : ℕ) (d : Column) (e : ColumnDef) → k < l.at → slice_index_or l.columns k d ≡ column_of (slice_index_or l.table_defs k e)
