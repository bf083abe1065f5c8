use Rattle.plant_keyed.proofs.PagesFind.{recalls_after_are}
use Rattle.plant_keyed.proofs.TextsSelect.{recalls_after}
use Rattle.plant_keyed.proofs.LookupsReport.{found_reported}
use Rattle.plant_keyed.proofs.worklists.KeyedWorklists.recalls_after.Goals as goal

pub page_after-requires : goal.page_after-requires
page_after-requires g c = (1, recalls_after)

pub returns : goal.returns
returns g c = found_reported g.S.Store c.page_after.ensures.same_reference c.page_after.result c.page_after.ensures.frame c.page_after.ensures.cached
    (c.page_after.ensures.rows 1 recalls_after)
    (λ valid holds. recalls_after_are _ _ valid holds c.args.cursor)
