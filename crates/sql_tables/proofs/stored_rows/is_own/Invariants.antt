use Rattle.std.proofs.Common.{◌≡◌, ◌<◌, ℕ, slice_index_or}
use Rattle.sqlite.specs.Table.{Table}
use Rattle.sql_tables.specs.{table_of}
use Rattle.sql_tables.proofs.stored_rows.is_own.Given as goal

abbrev pub invariant-loop-table : goal.invariant-loop-table
invariant-loop-table l = (k : ℕ) (d : Table) → k < l.table-index → (slice_index_or l.schema.tables k d).tree ≡ l.tree → slice_index_or l.schema.tables k d ≡ table_of l.table_def l.tree
