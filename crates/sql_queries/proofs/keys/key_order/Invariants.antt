use Rattle.std.proofs.Common.{◌≡◌, drop}
use Rattle.sql_queries.specs.{key_order}
use Rattle.sql_queries.proofs.keys.key_order.Given as goal

-- the columns so far are equal
abbrev pub invariant-loop-column_index : goal.invariant-loop-column_index
invariant-loop-column_index l = key_order l.column_indexes l.a l.b ≡ key_order (drop l.column_index-index l.column_indexes) l.a l.b
