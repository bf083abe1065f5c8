use Rattle.std.proofs.Common.{refl}
use Rattle.plant_keyed.proofs.PagesFind.{definitions_are}
use Rattle.plant_keyed.proofs.TextsSelect.{definitions_of_class}
use Rattle.plant_keyed.proofs.LookupsReport.{found_reported}
use Rattle.plant_keyed.proofs.worklists.KeyedWorklists.definitions_in.Goals as goal

pub page_with-requires : goal.page_with-requires
page_with-requires g c = (2, 1, definitions_of_class)

pub returns : goal.returns
returns g c = found_reported g.S.Store c.page_with.ensures.same_reference c.page_with.result c.page_with.ensures.frame c.page_with.ensures.cached
    (λ clean. rw c.id.ensures at (c.page_with.ensures.rows 2 1 definitions_of_class (rw c.id.ensures refl) clean))
    (λ valid holds. definitions_are _ _ valid holds c.args.class c.args.cursor)
