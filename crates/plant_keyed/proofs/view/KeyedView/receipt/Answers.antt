use Rattle.plant_keyed.proofs.LookupsReport.{view_reported}
use Rattle.plant_keyed.proofs.view.KeyedView.receipt.Goals as goal

pub returns : goal.returns
returns g c = view_reported g.S.Store c.receipt_of.ensures.same_reference c.receipt_of.ensures.reported c.receipt_of.ensures.cached
