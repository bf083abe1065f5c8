use Rattle.plant_keyed.proofs.PagesFind.{sublots_after_are}
use Rattle.plant_keyed.proofs.TextsSelect.{sublots_after}
use Rattle.plant_trace.proofs.HoldsIfHonest.{HoldsIfHonest-weaker}
use Rattle.plant_keyed.proofs.LookupsReport.{found_reported}
use Rattle.plant_keyed.proofs.worklists.KeyedWorklists.sublots_after.Goals as goal

pub page_after-requires : goal.page_after-requires
page_after-requires g c = (1, sublots_after)

pub returns : goal.returns
returns g c = HoldsIfHonest-weaker (λ is sound. is) (found_reported g.S.Store c.page_after.ensures.same_reference c.page_after.result c.page_after.ensures.frame c.page_after.ensures.cached
    (c.page_after.ensures.rows 1 sublots_after)
    (λ valid holds. sublots_after_are _ _ valid holds c.args.cursor))
