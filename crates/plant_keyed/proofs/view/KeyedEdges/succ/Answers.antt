use Rattle.plant_keyed.proofs.LookupsReport.{traced_reported}
use Rattle.plant_keyed.proofs.view.KeyedEdges.succ.Goals as goal

pub returns : goal.returns
returns g c = traced_reported g.S.Store c.next_nodes.ensures.same_reference c.next_nodes.ensures.traced
