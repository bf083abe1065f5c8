use Rattle.std.proofs.Common.{◌≡◌, ◌<◌, ℕ, true, slice_index_or}
use Rattle.sqlite_schema.specs.declared.schema.Index.{Index}
use Rattle.sqlite_schema.specs.Rules.{guards}
use Rattle.sqlite_rules.specs.Lists.{Has}
use Rattle.sqlite_value.specs.Keys.{plain}
use Rattle.sql_tables.specs.{table_of}
use Rattle.sql_tables.proofs.stored_rows.has_no_other_key.Given as goal

abbrev pub invariant-loop-index : goal.invariant-loop-index
invariant-loop-index l = (k : ℕ) (d : Index) → k < l.index-index → guards (slice_index_or l.schema.indexes k d) (table_of l.table_def l.tree) ≡ true
    → ((slice_index_or l.schema.indexes k d).order ≡ plain) × Has l.table_def.keys (slice_index_or l.schema.indexes k d).columns
