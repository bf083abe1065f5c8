use Rattle.std.proofs.Common.{◌≡◌, ◌<◌, ℕ, List, Bor, slice_index_or}
use Rattle.sql_tables.proofs.stored_rows.is_some_key.Given as goal

abbrev pub invariant-loop-key : goal.invariant-loop-key
invariant-loop-key l = (k : ℕ) (d : Bor (List ℕ)) → k < l.key-index → l.column_indexes ≡ (slice_index_or l.keys k d).now → ⊥
