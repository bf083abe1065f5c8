use Rattle.std.proofs.Common.{Vec, Global}
use Rattle.std.proofs.lemmas.Result.{IfOk-weaker}
use Rattle.plant_trace.specs.declared.direction.Direction.TheVariants.{Forward}
use Rattle.plant_trace.specs.{Node}
use Rattle.plant_keyed.proofs.EdgesAtNode.{next_by}
use Rattle.plant_keyed.proofs.edge_cache.EdgeCache.next.Goals as goal

pub returns : goal.returns
returns c = IfOk-weaker _ _ _ (λ (nodes : Vec Node Global) lists. next_by Forward c.args.node c.args.self.now.links.items c.links_at-links.result.now nodes.items (rw c.as_slice.ensures.value at c.links_at-links.ensures) lists) c.neighbours.ensures
