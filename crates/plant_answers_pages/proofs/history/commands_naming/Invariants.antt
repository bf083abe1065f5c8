use Rattle.std.proofs.Common.{◌≡◌, map, filter, take}
use Rattle.plant_answers_pages.specs.History.{named_command, names}
use Rattle.plant_answers_pages.proofs.history.commands_naming.Given as goal

abbrev pub invariant-loop-receipt : goal.invariant-loop-receipt
invariant-loop-receipt l = l.named.items ≡ map named_command (filter (λ r. names l.id r.content) (take l.receipt-index l.receipts))
