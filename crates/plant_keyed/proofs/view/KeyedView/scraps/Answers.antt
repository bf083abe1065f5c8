use Rattle.std.proofs.Common.{refl, [], ◌∷◌}
use Rattle.plant_keyed.proofs.LookupFinds.{movements_are}
use Rattle.plant_keyed.proofs.LookupTexts.{movements_of_lot_and_kind}
use Rattle.plant_keyed.proofs.ComparisonTests.{scrap_is}
use Rattle.plant_keyed.proofs.LookupsReport.{found_reported}
use Rattle.plant_keyed.proofs.view.KeyedView.scraps.Goals as goal

pub found-requires : goal.found-requires
found-requires g c = (4 ∷ 3 ∷ [], movements_of_lot_and_kind)

pub returns : goal.returns
returns g c = found_reported g.S.Store c.found.ensures.same_reference c.found.result c.found.ensures.frame c.found.ensures.cached
    (λ clean. rw (c.id.ensures, c.small.ensures) at (c.found.ensures.rows (4 ∷ 3 ∷ []) movements_of_lot_and_kind (refl, rw (c.id.ensures, c.small.ensures) refl) clean))
    (λ valid holds rows. movements_are _ _ valid holds (4 ∷ 3 ∷ []) _ _ (λ m. scrap_is m c.args.lot) rows.items)
