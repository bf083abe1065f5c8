use Rattle.plant_keyed.proofs.LookupsReport.{view_reported}
use Rattle.plant_keyed.proofs.view.KeyedView.batch_movements.Goals as goal

pub returns : goal.returns
returns g c = view_reported g.S.Store c.movements_of_batch.ensures.same_reference c.movements_of_batch.ensures.reported c.movements_of_batch.ensures.cached
