use Rattle.std.proofs.Common.{◌∙◌, refl, [], ◌∷◌, ap, option_map}
use Rattle.sqlite.specs.Held.{state}
use Rattle.plant_base.specs.{place_at}
use Rattle.plant_view.specs.{place_of_row}
use Rattle.plant_keyed.specs.{abstraction}
use Rattle.plant_keyed.proofs.RowsShown.{place_unread}
use Rattle.plant_keyed.proofs.LookupFinds.{sublot_is}
use Rattle.plant_keyed.proofs.LookupTexts.{sublot_by_key}
use Rattle.plant_trace.proofs.HoldsIfHonest.{HoldsIfHonest-weaker}
use Rattle.plant_keyed.proofs.LookupsReport.{found_reported}
use Rattle.plant_keyed.proofs.view.KeyedView.sublot.Goals as goal

pub first_found-requires : goal.first_found-requires
first_found-requires g c = ((1 ∷ 2 ∷ []), sublot_by_key)

pub returns-clause-row : goal.returns-clause-row
returns-clause-row g c = found_reported g.S.Store c.first_found.ensures.same_reference c.first_found.result c.first_found.ensures.frame c.first_found.ensures.cached
    (λ clean. rw (c.id.ensures, c.small.ensures) at (c.first_found.ensures.row (1 ∷ 2 ∷ []) sublot_by_key (refl, rw (c.id.ensures, c.small.ensures) refl) clean))
    (λ valid holds row found. ap (option_map place_of_row) (sublot_is _ _ valid holds c.args.lot c.args.number row found) ∙ place_unread _ (place_at (abstraction (state g.S.Store c.args.self.now.conn.now).now) c.args.lot c.args.number))

pub returns-clause-stock : goal.returns-clause-stock
returns-clause-stock g c = HoldsIfHonest-weaker (λ is sound. is) (found_reported g.S.Store c.first_found.ensures.same_reference c.first_found.result c.first_found.ensures.frame c.first_found.ensures.cached
    (λ clean. rw (c.id.ensures, c.small.ensures) at (c.first_found.ensures.row (1 ∷ 2 ∷ []) sublot_by_key (refl, rw (c.id.ensures, c.small.ensures) refl) clean))
    (λ valid holds. sublot_is _ _ valid holds c.args.lot c.args.number))
