use Rattle.std.proofs.Common.{◌≡◌, map, take, filter, is_some}
use Rattle.grouped_rows.proofs.keyed.Given as goal

abbrev pub invariant-loop-row : goal.invariant-loop-row
invariant-loop-row g l = map (λ r. r.now) l.found.items ≡ filter (λ r. is_some (g.G.Grouping.key_of r)) (take l.row-index l.rows)
