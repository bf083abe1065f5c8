use Rattle.std.proofs.Common.{◌≡◌, drop}
use Rattle.plant_desk_store.specs.Digests.{with_changes}
use Rattle.plant_desk_store.proofs.digest.Digest.add_changes.Given as goal

abbrev pub invariant-loop-change : goal.invariant-loop-change
invariant-loop-change l = with_changes l.self (drop l.change-index l.changes) ≡ with_changes l.fn.self l.changes
