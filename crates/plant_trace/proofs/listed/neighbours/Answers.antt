use Rattle.std.proofs.Common.{◌∙◌, sym, ap}
use Rattle.plant_trace.specs.declared.node.Node.{Node}
use Rattle.plant_trace.proofs.NeighboursOfNode.{Nexts-other, Nexts-here}
use Rattle.plant_trace.proofs.NodeOrder.{node_ne_exact, node_not_ne}
use Rattle.plant_trace.proofs.listed.neighbours.Goals as goal

pub loop-pair-preserved-then-ne : goal.loop-pair-preserved-then-ne
loop-pair-preserved-then-ne c =
    Nexts-other c.args.direction c.args.pairs.now c.loop-pair.pair-index c.pair-item.result c.loop-pair-test.true c.args.node c.loop-pair.found.keys
    (λ e. node_ne_exact _ _ (sym c.ne.ensures ∙ c.if-ne.true) (ap (λ (q : Node × Node). q.0) (rw c.pair-item.is at c.ends-near.ensures) ∙ e))
    c.loop-pair.invariant

pub loop-pair-preserved : goal.loop-pair-preserved
loop-pair-preserved c =
    Nexts-here c.args.direction c.args.pairs.now c.loop-pair.pair-index c.pair-item.result c.loop-pair-test.true c.args.node c.loop-pair.found c.insert.new.self
    (sym (ap (λ (q : Node × Node). q.0) (rw c.pair-item.is at c.ends-near.ensures)) ∙ node_not_ne _ _ (sym c.ne.ensures ∙ c.if-ne.false))
    (rw (c.ends-near.ensures, c.pair-item.is) at c.in_ok-insert.ensures.updates)
    c.loop-pair.invariant
