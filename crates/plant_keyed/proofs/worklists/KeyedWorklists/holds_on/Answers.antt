use Rattle.std.proofs.Common.{refl}
use Rattle.plant_keyed.proofs.PagesFind.{holds_are}
use Rattle.plant_keyed.proofs.TextsSelect.{holds_on_lot}
use Rattle.plant_keyed.proofs.LookupsReport.{found_reported}
use Rattle.plant_keyed.proofs.worklists.KeyedWorklists.holds_on.Goals as goal

pub page_with-requires : goal.page_with-requires
page_with-requires g c = (1, 2, holds_on_lot)

pub returns : goal.returns
returns g c = found_reported g.S.Store c.page_with.ensures.same_reference c.page_with.result c.page_with.ensures.frame c.page_with.ensures.cached
    (λ clean. rw c.id.ensures at (c.page_with.ensures.rows 1 2 holds_on_lot (rw c.id.ensures refl) clean))
    (λ valid holds. holds_are _ _ valid holds c.args.lot c.args.cursor)
