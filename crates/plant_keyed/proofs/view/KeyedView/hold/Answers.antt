use Rattle.std.proofs.Common.{refl, [], ◌∷◌}
use Rattle.plant_keyed.proofs.LookupFinds.{hold_is}
use Rattle.plant_keyed.proofs.LookupTexts.{hold_by_key}
use Rattle.plant_keyed.proofs.LookupsReport.{found_reported}
use Rattle.plant_keyed.proofs.view.KeyedView.hold.Goals as goal

pub first_found-requires : goal.first_found-requires
first_found-requires g c = ((1 ∷ 2 ∷ []), hold_by_key)

pub returns : goal.returns
returns g c = found_reported g.S.Store c.first_found.ensures.same_reference c.first_found.result c.first_found.ensures.frame c.first_found.ensures.cached
    (λ clean. rw (c.id.ensures, c.id-2.ensures) at (c.first_found.ensures.row (1 ∷ 2 ∷ []) hold_by_key (refl, rw (c.id.ensures, c.id-2.ensures) refl) clean))
    (λ valid holds. hold_is _ _ valid holds c.args.lot c.args.id)
