use Rattle.std.proofs.Common.{refl}
use Rattle.plant_keyed.proofs.LookupsKeep.{reported_valid}
use Rattle.plant_keyed.proofs.TwoKeyPages.{recipes_are}
use Rattle.plant_keyed.proofs.TextsSelect.{recipes_in_state, recipes_in_state_at}
use Rattle.plant_keyed.proofs.LookupsReport.{view_reported}
use Rattle.plant_keyed.proofs.worklists.KeyedWorklists.recipes_in.Goals as goal

pub page_beyond-requires : goal.page_beyond-requires
page_beyond-requires g c = (8, 1, 2, rw c.first_key.ensures recipes_in_state_at, rw c.first_key.ensures recipes_in_state)

pub returns : goal.returns
returns g c = view_reported g.S.Store c.page_beyond.ensures.same_reference (reported_valid _ _ _ _ _ _ _
    (rw (c.first_key.ensures, c.word.ensures, c.name.ensures, c.word-2.ensures, c.recipe_text_after.ensures, c.small.ensures, c.version_after.ensures) at
    (c.page_beyond.ensures.reported 8 1 2 (rw c.first_key.ensures recipes_in_state_at) (rw c.first_key.ensures recipes_in_state) (rw c.word.ensures refl) (rw c.word-2.ensures refl) (rw c.small.ensures refl)))
    (λ valid holds. recipes_are _ _ valid holds c.args.state c.args.cursor)) c.page_beyond.ensures.cached
