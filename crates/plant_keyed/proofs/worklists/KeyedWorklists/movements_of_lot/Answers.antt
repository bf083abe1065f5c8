use Rattle.std.proofs.Common.{refl, [], ◌∷◌}
use Rattle.plant_keyed.proofs.LookupFinds.{movements_are}
use Rattle.plant_keyed.proofs.LookupTexts.{movements_of_lot}
use Rattle.plant_keyed.proofs.ComparisonTests.{own_is}
use Rattle.plant_keyed.proofs.LookupsReport.{found_reported}
use Rattle.plant_keyed.proofs.worklists.KeyedWorklists.movements_of_lot.Goals as goal

pub found-requires : goal.found-requires
found-requires g c = (4 ∷ [], movements_of_lot)

pub returns : goal.returns
returns g c = found_reported g.S.Store c.found.ensures.same_reference c.found.result c.found.ensures.frame c.found.ensures.cached
    (λ clean. rw c.id.ensures at (c.found.ensures.rows (4 ∷ []) movements_of_lot (refl, rw c.id.ensures refl) clean))
    (λ valid holds rows. movements_are _ _ valid holds (4 ∷ []) _ _ (λ m. own_is m c.args.lot) rows.items)
