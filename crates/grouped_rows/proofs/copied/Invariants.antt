use Rattle.std.proofs.Common.{◌≡◌, map, take}
use Rattle.grouped_rows.proofs.copied.Given as goal

abbrev pub invariant-loop-row : goal.invariant-loop-row
invariant-loop-row g l = l.rows.items ≡ map (λ r. r.now) (take l.row-index l.found)
