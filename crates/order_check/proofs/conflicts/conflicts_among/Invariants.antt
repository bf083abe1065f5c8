use Rattle.std.proofs.Common.{◌≡◌, take}
use Rattle.order_check.specs.{conflicts_among}
use Rattle.order_check.proofs.conflicts.conflicts_among.Given as goal

-- the conflicts of the orders so far
abbrev pub invariant-loop-order : goal.invariant-loop-order
invariant-loop-order l = l.conflicts.items ≡ conflicts_among l.orders (take l.order-index l.some)
