use Rattle.std.proofs.Common.{◌∙◌, refl, [], ◌∷◌, ap, option_map}
use Rattle.sqlite.specs.Held.{state}
use Rattle.plant_base.specs.{batch_at}
use Rattle.plant_keyed.specs.{abstraction}
use Rattle.plant_keyed.proofs.RowsShown.{batch_unread}
use Rattle.plant_keyed.proofs.LookupFinds.{batch_is}
use Rattle.plant_keyed.proofs.LookupTexts.{batch_by_id}
use Rattle.plant_trace.proofs.HoldsIfHonest.{HoldsIfHonest-weaker}
use Rattle.plant_keyed.proofs.LookupsReport.{found_reported}
use Rattle.plant_keyed.proofs.view.KeyedView.batch.Goals as goal

pub first_found-requires : goal.first_found-requires
first_found-requires g c = ((1 ∷ []), batch_by_id)

pub returns-clause-row : goal.returns-clause-row
returns-clause-row g c = found_reported g.S.Store c.first_found.ensures.same_reference c.first_found.result c.first_found.ensures.frame c.first_found.ensures.cached
    (λ clean. rw c.id.ensures at (c.first_found.ensures.row (1 ∷ []) batch_by_id (refl, rw c.id.ensures refl) clean))
    (λ valid holds row found. ap (option_map (λ r. r.batch)) (batch_is _ _ valid holds c.args.id row found) ∙ batch_unread _ _ (batch_at (abstraction (state g.S.Store c.args.self.now.conn.now).now) c.args.id))

pub returns-clause-progress : goal.returns-clause-progress
returns-clause-progress g c = HoldsIfHonest-weaker (λ is sound. is) (found_reported g.S.Store c.first_found.ensures.same_reference c.first_found.result c.first_found.ensures.frame c.first_found.ensures.cached
    (λ clean. rw c.id.ensures at (c.first_found.ensures.row (1 ∷ []) batch_by_id (refl, rw c.id.ensures refl) clean))
    (λ valid holds. batch_is _ _ valid holds c.args.id))
