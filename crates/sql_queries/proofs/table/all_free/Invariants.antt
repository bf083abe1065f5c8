use Rattle.std.proofs.Common.{ℕ, ◌<◌, slice_index_or}
use Rattle.sql_tables.specs.{TableDef, IsFree}
use Rattle.sql_queries.proofs.table.all_free.Given as goal

abbrev pub invariant-loop-table_def : goal.invariant-loop-table_def
invariant-loop-table_def l = (k : ℕ) (d : TableDef) → k < l.table_def-index → IsFree l.schema (slice_index_or l.table_defs k d)
