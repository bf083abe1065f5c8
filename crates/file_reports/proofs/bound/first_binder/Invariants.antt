use Rattle.std.proofs.Common.{◌≡◌, drop}
use Rattle.file_reports.specs.{first_binder}
use Rattle.file_reports.proofs.bound.first_binder.Given as goal

-- none so far is on a table of the desk: the first is one of those that are left
abbrev pub invariant-loop-object : goal.invariant-loop-object
invariant-loop-object l = first_binder (drop l.object-index l.objects) ≡ first_binder l.objects
