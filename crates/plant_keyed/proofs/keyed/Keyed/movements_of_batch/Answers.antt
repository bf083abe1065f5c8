use Rattle.std.proofs.Common.{refl, [], ◌∷◌}
use Rattle.plant_keyed.proofs.LookupFinds.{movements_are}
use Rattle.plant_keyed.proofs.LookupsKeep.{reported_found}
use Rattle.plant_keyed.proofs.ComparisonTests.{batch_is}
use Rattle.plant_keyed.proofs.LookupTexts as text
use Rattle.plant_keyed.proofs.keyed.Keyed.movements_of_batch.Goals as goal

pub found-requires : goal.found-requires
found-requires g c = (8 ∷ [], text.movements_of_batch)

pub returns-clause-reported : goal.returns-clause-reported
returns-clause-reported g c = reported_found _ _ _ _ c.found.result _ _ c.found.ensures.frame
    (λ clean. rw c.id.ensures at (c.found.ensures.rows (8 ∷ []) text.movements_of_batch (refl, rw c.id.ensures refl) clean))
    (λ valid holds rows found. movements_are _ _ valid holds (8 ∷ []) _ _ (λ m. batch_is m c.args.batch.now) rows.items found)
