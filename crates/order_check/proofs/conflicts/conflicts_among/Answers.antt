use Rattle.std.proofs.Common.{◌∙◌, ◌++◌, ap, take_all}
use Rattle.order_check.specs.{conflict_in, conflicts_among}
use Rattle.order_check.proofs.ConflictsConcatenate.{conflicts_added}
use Rattle.order_check.proofs.conflicts.conflicts_among.Goals as goal

pub loop-order-preserved : goal.loop-order-preserved
loop-order-preserved c = conflicts_added c.args.orders.now c.args.some.now c.loop-order.order-index _ _ _ c.loop-order-test.true c.loop-order.invariant
    (c.in_ok-add_conflict.ensures ∙ ap (λ o. c.loop-order.conflicts.items ++ conflict_in c.args.orders.now o) c.order-item.is)

pub returns : goal.returns
returns c = c.loop-order.invariant ∙ ap (conflicts_among c.args.orders.now) (take_all c.loop-order.order-index c.args.some.now c.loop-order-test.false)
