use Rattle.std.proofs.Common.{◌∙◌, sym}
use Rattle.std.specs.List.{list_any}
use Rattle.plant_base.specs.{same}
use Rattle.plant_requirements.proofs.KeyTests.{ids_tie, found_any}
use Rattle.plant_requirements.proofs.plan_keys.has_definition.Goals as goal

pub returns : goal.returns
returns c =
    let rows = c.args.definitions.now.rows.now in
    c.has.ensures ∙ ((λ i. list_any (λ r. ids_tie r.id c.args.id i) rows) ∙ sym (found_any (λ r. same r.id c.args.id) rows))
