use Rattle.std.proofs.Common.{refl}
use Rattle.plant_keyed.proofs.PagesFind.{recalls_are}
use Rattle.plant_keyed.proofs.TextsSelect.{recalls_in_state}
use Rattle.plant_keyed.proofs.LookupsReport.{found_reported}
use Rattle.plant_keyed.proofs.worklists.KeyedWorklists.recalls_in.Goals as goal

pub page_with-requires : goal.page_with-requires
page_with-requires g c = (3, 1, recalls_in_state)

pub returns : goal.returns
returns g c = found_reported g.S.Store c.page_with.ensures.same_reference c.page_with.result c.page_with.ensures.frame c.page_with.ensures.cached
    (λ clean. rw (c.word.ensures, c.name.ensures, c.recall_state.ensures) at (c.page_with.ensures.rows 3 1 recalls_in_state (rw c.word.ensures refl) clean))
    (λ valid holds. recalls_are _ _ valid holds c.args.are_open c.args.cursor)
