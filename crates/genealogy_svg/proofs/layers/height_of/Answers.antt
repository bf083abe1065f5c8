use Rattle.std.proofs.Common.{take_all}
use Rattle.genealogy_svg.proofs.layers.height_of.Goals as goal

pub returns-clause-all : goal.returns-clause-all
returns-clause-all c = rw (take_all c.loop-edge.edge-index c.args.edges.now c.loop-edge-test.false) at c.loop-edge.invariant.all
