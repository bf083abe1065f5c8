use Rattle.std.proofs.Common.{refl, [], ◌∷◌}
use Rattle.plant_keyed.proofs.LookupFinds.{holds_are}
use Rattle.plant_keyed.proofs.LookupTexts.{holds_of_lot}
use Rattle.plant_keyed.proofs.LookupsReport.{found_reported}
use Rattle.plant_keyed.proofs.view.KeyedView.holds.Goals as goal

pub found-requires : goal.found-requires
found-requires g c = ((1 ∷ []), holds_of_lot)

pub returns : goal.returns
returns g c = found_reported g.S.Store c.found.ensures.same_reference c.found.result c.found.ensures.frame c.found.ensures.cached
    (λ clean. rw c.id.ensures at (c.found.ensures.rows (1 ∷ []) holds_of_lot (refl, rw c.id.ensures refl) clean))
    (λ valid holds rows. holds_are _ _ valid holds c.args.lot rows.items)
