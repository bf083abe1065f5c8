use Rattle.std.proofs.Common.{refl}
use Rattle.plant_keyed.proofs.PagesFind.{lots_are}
use Rattle.plant_keyed.proofs.TextsSelect.{lots_of_definition}
use Rattle.plant_keyed.proofs.LookupsReport.{found_reported}
use Rattle.plant_keyed.proofs.worklists.KeyedWorklists.lots_of.Goals as goal

pub page_with-requires : goal.page_with-requires
page_with-requires g c = (2, 1, lots_of_definition)

pub returns : goal.returns
returns g c = found_reported g.S.Store c.page_with.ensures.same_reference c.page_with.result c.page_with.ensures.frame c.page_with.ensures.cached
    (λ clean. rw c.id.ensures at (c.page_with.ensures.rows 2 1 lots_of_definition (rw c.id.ensures refl) clean))
    (λ valid holds. lots_are _ _ valid holds c.args.def c.args.cursor)
