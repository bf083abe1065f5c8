use Rattle.std.proofs.Common.{◌≡◌, drop}
use Rattle.plant_desk_store.specs.Digests.{with_receipts}
use Rattle.plant_desk_store.proofs.digest.Digest.add_receipts.Given as goal

abbrev pub invariant-loop-receipt : goal.invariant-loop-receipt
invariant-loop-receipt l = with_receipts l.self (drop l.receipt-index l.receipts) ≡ with_receipts l.fn.self l.receipts
