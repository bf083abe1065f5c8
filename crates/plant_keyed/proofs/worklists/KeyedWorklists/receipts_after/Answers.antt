use Rattle.plant_keyed.proofs.PagesFind.{receipts_are}
use Rattle.plant_keyed.proofs.TextsSelect.{receipts_after}
use Rattle.plant_keyed.proofs.LookupsReport.{found_reported}
use Rattle.plant_keyed.proofs.worklists.KeyedWorklists.receipts_after.Goals as goal

pub receipts_page_after-requires : goal.receipts_page_after-requires
receipts_page_after-requires g c = (2, receipts_after)

pub returns : goal.returns
returns g c = found_reported g.S.Store c.receipts_page_after.ensures.same_reference c.receipts_page_after.result c.receipts_page_after.ensures.frame c.receipts_page_after.ensures.cached
    (c.receipts_page_after.ensures.rows 2 receipts_after)
    (λ valid holds. receipts_are _ _ valid holds c.args.cursor)
