use Rattle.std.proofs.Common.{◌≡◌, map, take}
use Rattle.plant_desk.proofs.pages.receipts_of.Given as goal

-- what the rows so far hold
abbrev pub invariant-loop-row : goal.invariant-loop-row
invariant-loop-row l = l.receipts.items ≡ map (λ r. r.0) (take l.row-index l.rows)
