use Rattle.std.proofs.Common.{refl, [], ◌∷◌}
use Rattle.plant_keyed.proofs.LookupFinds.{movements_are}
use Rattle.plant_keyed.proofs.LookupTexts.{movements_into_lot}
use Rattle.plant_keyed.proofs.ComparisonTests.{into_is}
use Rattle.plant_keyed.proofs.LookupsReport.{found_reported}
use Rattle.plant_keyed.proofs.worklists.KeyedWorklists.movements_into.Goals as goal

pub found-requires : goal.found-requires
found-requires g c = (6 ∷ [], movements_into_lot)

pub returns : goal.returns
returns g c = found_reported g.S.Store c.found.ensures.same_reference c.found.result c.found.ensures.frame c.found.ensures.cached
    (λ clean. rw c.id.ensures at (c.found.ensures.rows (6 ∷ []) movements_into_lot (refl, rw c.id.ensures refl) clean))
    (λ valid holds rows. movements_are _ _ valid holds (6 ∷ []) _ _ (λ m. into_is m c.args.lot) rows.items)
