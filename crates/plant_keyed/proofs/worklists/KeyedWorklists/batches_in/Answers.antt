use Rattle.plant_keyed.proofs.PagesFind.{batches_are, flag_bound, flag_given}
use Rattle.plant_keyed.proofs.TextsSelect.{batches_by_closed}
use Rattle.plant_keyed.proofs.LookupsReport.{found_reported}
use Rattle.plant_keyed.proofs.worklists.KeyedWorklists.batches_in.Goals as goal

pub page_with-requires : goal.page_with-requires
page_with-requires g c = (9, 1, batches_by_closed)

pub returns : goal.returns
returns g c = found_reported g.S.Store c.page_with.ensures.same_reference c.page_with.result c.page_with.ensures.frame c.page_with.ensures.cached
    (λ clean. rw (c.truth.ensures, flag_bound c.args.closed) at (c.page_with.ensures.rows 9 1 batches_by_closed (rw c.truth.ensures (flag_given c.args.closed)) clean))
    (λ valid holds. batches_are _ _ valid holds c.args.closed c.args.cursor)
