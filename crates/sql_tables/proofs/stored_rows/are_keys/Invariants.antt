use Rattle.std.proofs.Common.{◌≡◌, ◌<◌, ℕ, List, Bor, slice_index_or}
use Rattle.sql_tables.proofs.stored_rows.are_keys.Given as goal

abbrev pub invariant-loop-at : goal.invariant-loop-at
invariant-loop-at l = (k : ℕ) (d : List ℕ) (e : Bor (List ℕ)) → k < l.at → slice_index_or l.uniques k d ≡ (slice_index_or l.keys k e).now
