use Rattle.std.proofs.Common.{refl, [], ◌∷◌}
use Rattle.plant_keyed.proofs.LookupFinds.{events_are}
use Rattle.plant_keyed.proofs.LookupTexts.{events_of_batch}
use Rattle.plant_keyed.proofs.LookupsReport.{found_reported}
use Rattle.plant_keyed.proofs.view.KeyedView.events.Goals as goal

pub found-requires : goal.found-requires
found-requires g c = ((2 ∷ []), events_of_batch)

pub returns : goal.returns
returns g c = found_reported g.S.Store c.found.ensures.same_reference c.found.result c.found.ensures.frame c.found.ensures.cached
    (λ clean. rw c.id.ensures at (c.found.ensures.rows (2 ∷ []) events_of_batch (refl, rw c.id.ensures refl) clean))
    (λ valid holds rows. events_are _ _ valid holds c.args.batch rows.items)
