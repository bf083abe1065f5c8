use Rattle.plant_trace.proofs.NodeSets.{Adds_more}
use Rattle.plant_trace.proofs.seen.note_all.Goals as goal

pub loop-node-preserved : goal.loop-node-preserved
loop-node-preserved c =
    let e = c.in_ok-insert.ensures in
    Adds_more c.loop-node.seen c.insert.new.self c.args.nodes.now c.args.seen.now.keys c.loop-node.node-index c.node-item.result c.in_ok-insert.field-0 c.loop-node-test.true (rw c.node-item.is at e.updates) e.len e.unchanged c.loop-node.invariant
