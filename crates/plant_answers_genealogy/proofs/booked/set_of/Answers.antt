use Rattle.plant_answers_genealogy.proofs.BookingLoops.{set_more}
use Rattle.plant_answers_genealogy.proofs.booked.set_of.Goals as goal

pub loop-node-preserved : goal.loop-node-preserved
loop-node-preserved c = set_more c.args.nodes.now c.loop-node.node-index c.node-item.result c.loop-node.among c.insert.new.self c.loop-node-test.true c.node-item.is c.in_ok-insert.ensures.updates c.loop-node.invariant
