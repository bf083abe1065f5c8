use Rattle.plant_keyed.proofs.LookupsReport.{view_reported}
use Rattle.plant_keyed.proofs.view.KeyedView.marks.Goals as goal

pub returns : goal.returns
returns g c = view_reported g.S.Store c.marks_at.ensures.same_reference c.marks_at.ensures.reported c.marks_at.ensures.cached
