use Rattle.plant_keyed.proofs.PagesFind.{sublots_in_stock_are}
use Rattle.plant_keyed.proofs.TextsSelect.{sublots_above}
use Rattle.plant_trace.proofs.HoldsIfHonest.{HoldsIfHonest-weaker}
use Rattle.plant_keyed.proofs.LookupsReport.{found_reported}
use Rattle.plant_keyed.proofs.worklists.KeyedWorklists.sublots_in_stock.Goals as goal

pub all_with_amount-requires : goal.all_with_amount-requires
all_with_amount-requires g c = (4, sublots_above)

pub returns : goal.returns
returns g c = HoldsIfHonest-weaker (λ is sound. is) (found_reported g.S.Store c.all_with_amount.ensures.same_reference c.all_with_amount.result c.all_with_amount.ensures.frame c.all_with_amount.ensures.cached
    (c.all_with_amount.ensures.rows 4 sublots_above)
    (λ valid holds rows. sublots_in_stock_are _ _ valid holds rows.items))
