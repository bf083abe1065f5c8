use Rattle.std.proofs.Common.{◌∙◌, refl, [], true}
use Rattle.plant_keyed.proofs.LookupFinds.{edges_are}
use Rattle.plant_keyed.proofs.CachedEdges.{all_pass}
use Rattle.plant_keyed.proofs.LookupsKeep.{reported_found}
use Rattle.plant_keyed.proofs.LookupTexts as text
use Rattle.plant_keyed.proofs.keyed.Keyed.all_edges.Goals as goal

pub found-requires : goal.found-requires
found-requires g c = ([], text.edges)

pub returns-clause-reported : goal.returns-clause-reported
returns-clause-reported g c = reported_found _ _ _ _ c.found.result _ _ c.found.ensures.frame
    (λ clean. c.found.ensures.rows [] text.edges (refl, refl) clean)
    (λ valid holds rows found. edges_are _ _ valid holds [] _ (λ e. true) (λ e. refl) rows.items found ∙ all_pass _)
