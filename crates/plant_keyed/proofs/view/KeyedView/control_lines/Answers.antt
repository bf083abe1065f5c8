use Rattle.std.proofs.Common.{refl, [], ◌∷◌}
use Rattle.plant_keyed.proofs.LookupFinds.{control_lines_are}
use Rattle.plant_keyed.proofs.LookupTexts.{lines_of_batch}
use Rattle.plant_keyed.proofs.LookupsReport.{found_reported}
use Rattle.plant_keyed.proofs.view.KeyedView.control_lines.Goals as goal

pub found-requires : goal.found-requires
found-requires g c = ((1 ∷ []), lines_of_batch)

pub returns : goal.returns
returns g c = found_reported g.S.Store c.found.ensures.same_reference c.found.result c.found.ensures.frame c.found.ensures.cached
    (λ clean. rw c.id.ensures at (c.found.ensures.rows (1 ∷ []) lines_of_batch (refl, rw c.id.ensures refl) clean))
    (λ valid holds rows. control_lines_are _ _ valid holds c.args.batch rows.items)
