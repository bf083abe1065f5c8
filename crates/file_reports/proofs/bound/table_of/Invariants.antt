use Rattle.std.proofs.Common.{◌≡◌, drop}
use Rattle.file_reports.specs.{table_of}
use Rattle.file_reports.proofs.bound.table_of.Given as goal

-- the object is on none so far: the first is one of those that are left
abbrev pub invariant-loop-table : goal.invariant-loop-table
invariant-loop-table l = table_of l.object (drop l.table-index l.tables) ≡ table_of l.object l.tables
