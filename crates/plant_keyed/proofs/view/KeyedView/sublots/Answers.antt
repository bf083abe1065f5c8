use Rattle.std.proofs.Common.{◌∙◌, refl, [], ◌∷◌, ap, map}
use Rattle.sqlite.specs.Held.{state}
use Rattle.plant_view.specs.{place_of_row, places_of}
use Rattle.plant_keyed.specs.{abstraction}
use Rattle.plant_keyed.proofs.RowsShown.{places_unread}
use Rattle.plant_keyed.proofs.LookupFinds.{sublots_are}
use Rattle.plant_keyed.proofs.LookupTexts.{sublots_of_lot}
use Rattle.plant_trace.proofs.HoldsIfHonest.{HoldsIfHonest-weaker}
use Rattle.plant_keyed.proofs.LookupsReport.{found_reported}
use Rattle.plant_keyed.proofs.view.KeyedView.sublots.Goals as goal

pub found-requires : goal.found-requires
found-requires g c = ((1 ∷ []), sublots_of_lot)

pub returns-clause-rows : goal.returns-clause-rows
returns-clause-rows g c = found_reported g.S.Store c.found.ensures.same_reference c.found.result c.found.ensures.frame c.found.ensures.cached
    (λ clean. rw c.id.ensures at (c.found.ensures.rows (1 ∷ []) sublots_of_lot (refl, rw c.id.ensures refl) clean))
    (λ valid holds rows found. ap (map place_of_row) (sublots_are _ _ valid holds c.args.lot rows.items found) ∙ places_unread _ (places_of (abstraction (state g.S.Store c.args.self.now.conn.now).now) c.args.lot))

pub returns-clause-stocks : goal.returns-clause-stocks
returns-clause-stocks g c = HoldsIfHonest-weaker (λ is sound. is) (found_reported g.S.Store c.found.ensures.same_reference c.found.result c.found.ensures.frame c.found.ensures.cached
    (λ clean. rw c.id.ensures at (c.found.ensures.rows (1 ∷ []) sublots_of_lot (refl, rw c.id.ensures refl) clean))
    (λ valid holds rows. sublots_are _ _ valid holds c.args.lot rows.items))
