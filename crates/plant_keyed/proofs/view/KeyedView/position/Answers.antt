use Rattle.plant_keyed.proofs.LookupsReport.{traced_reported}
use Rattle.plant_keyed.proofs.view.KeyedView.position.Goals as goal

pub returns : goal.returns
returns g c = traced_reported g.S.Store c.known_position.ensures.same_reference c.known_position.ensures.traced
