use Rattle.plant_trace.proofs.NodeOrder.{node_contains}
use Rattle.plant_trace.proofs.cycles.has.Goals as goal

pub returns : goal.returns
returns c = node_contains c.args.nodes.now c.args.node c.contains.result c.contains.ensures.cases
