use Rattle.std.proofs.Common.{refl}
use Rattle.plant_keyed.proofs.LookupsKeep.{reported_valid}
use Rattle.plant_keyed.proofs.TwoKeyPages.{orders_by_due_are}
use Rattle.plant_keyed.proofs.TextsSelect.{orders_by_due, orders_by_due_at}
use Rattle.plant_keyed.proofs.LookupsReport.{view_reported}
use Rattle.plant_keyed.proofs.worklists.KeyedWorklists.orders_by_due.Goals as goal

pub page_beyond-requires : goal.page_beyond-requires
page_beyond-requires g c = (7, 5, 1, orders_by_due_at, orders_by_due)

pub returns : goal.returns
returns g c = view_reported g.S.Store c.page_beyond.ensures.same_reference (reported_valid _ _ _ _ _ _ _
    (rw (c.word.ensures, c.name.ensures, c.word-2.ensures, c.due_text_after.ensures, c.word-3.ensures, c.order_text_after.ensures) at
    (c.page_beyond.ensures.reported 7 5 1 orders_by_due_at orders_by_due (rw c.word.ensures refl) (rw c.word-2.ensures refl) (rw c.word-3.ensures refl)))
    (λ valid holds. orders_by_due_are _ _ valid holds c.args.state c.args.cursor)) c.page_beyond.ensures.cached
