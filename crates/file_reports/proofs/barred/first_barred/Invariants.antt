use Rattle.std.proofs.Common.{◌≡◌, drop}
use Rattle.file_reports.specs.{first_barred}
use Rattle.file_reports.proofs.barred.first_barred.Given as goal

-- none so far is barred: the first is one of those that are left
abbrev pub invariant-loop-index : goal.invariant-loop-index
invariant-loop-index l = first_barred l.there l.schema (drop l.index-index l.indexes) ≡ first_barred l.there l.schema l.indexes
