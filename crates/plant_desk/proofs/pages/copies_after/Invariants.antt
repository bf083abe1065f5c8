use Rattle.std.proofs.Common.{◌≡◌, filter, map, take}
use Rattle.plant_questions.specs.{is_number_after}
use Rattle.plant_desk.proofs.pages.copies_after.Given as goal

-- those of the receipts so far
abbrev pub invariant-loop-receipt : goal.invariant-loop-receipt
invariant-loop-receipt l = map (λ r. r.0) l.rows.items ≡ filter (is_number_after l.cursor) (take l.receipt-index l.receipts)
