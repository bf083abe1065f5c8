use Rattle.std.proofs.Common.{refl, [], ◌∷◌}
use Rattle.plant_keyed.proofs.LookupFinds.{versions_are}
use Rattle.plant_keyed.proofs.LookupTexts.{versions_of_recipe}
use Rattle.plant_keyed.proofs.LookupsReport.{found_reported}
use Rattle.plant_keyed.proofs.worklists.KeyedWorklists.versions_of.Goals as goal

pub found-requires : goal.found-requires
found-requires g c = (1 ∷ [], versions_of_recipe)

pub returns : goal.returns
returns g c = found_reported g.S.Store c.found.ensures.same_reference c.found.result c.found.ensures.frame c.found.ensures.cached
    (λ clean. rw c.id.ensures at (c.found.ensures.rows (1 ∷ []) versions_of_recipe (refl, rw c.id.ensures refl) clean))
    (λ valid holds rows. versions_are _ _ valid holds c.args.recipe rows.items)
