use Rattle.std.proofs.Common.{refl, [], ◌∷◌}
use Rattle.plant_base.specs.{edge_kind_number}
use Rattle.plant_keyed.proofs.LookupFinds.{edges_are}
use Rattle.plant_keyed.proofs.LookupsKeep.{reported_found}
use Rattle.plant_keyed.proofs.LookupTexts as text
use Rattle.plant_keyed.proofs.ComparisonTests.{number_text}
use Rattle.plant_keyed.proofs.keyed.Keyed.edges_of_kind.Goals as goal

pub found-requires : goal.found-requires
found-requires g c = (1 ∷ 2 ∷ [], text.edges_from)

pub found-requires-in-Back : goal.found-requires-in-Back
found-requires-in-Back g c = (1 ∷ 3 ∷ [], text.edges_to)

pub returns-in-Forward-clause-reported : goal.returns-in-Forward-clause-reported
returns-in-Forward-clause-reported g c = rw c.in-Forward.is (reported_found _ _ _ _ c.found.result _ _ c.found.ensures.frame
    (λ clean. rw (c.id.ensures, c.small.ensures, c.number.ensures) at (c.found.ensures.rows (1 ∷ 2 ∷ []) text.edges_from (refl, rw (c.id.ensures, c.small.ensures) refl) clean))
    (λ valid holds rows. edges_are _ _ valid holds (1 ∷ 2 ∷ []) _ _ (λ e. number_text (edge_kind_number e.kind) (edge_kind_number c.args.kind) e.from c.args.id.now) rows.items))

pub returns-in-Back-clause-reported : goal.returns-in-Back-clause-reported
returns-in-Back-clause-reported g c = rw c.in-Back.is (reported_found _ _ _ _ c.found-in-Back.result _ _ c.found-in-Back.ensures.frame
    (λ clean. rw (c.id.ensures, c.small.ensures, c.number.ensures) at (c.found-in-Back.ensures.rows (1 ∷ 3 ∷ []) text.edges_to (refl, rw (c.id.ensures, c.small.ensures) refl) clean))
    (λ valid holds rows. edges_are _ _ valid holds (1 ∷ 3 ∷ []) _ _ (λ e. number_text (edge_kind_number e.kind) (edge_kind_number c.args.kind) e.to c.args.id.now) rows.items))
