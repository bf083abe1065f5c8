use Rattle.std.proofs.Common.{◌∙◌}
use Rattle.std.specs.List.{list_any}
use Rattle.plant_requirements.proofs.KeyTests.{pairs_tie}
use Rattle.plant_requirements.proofs.plan_keys.has_recipe.Goals as goal

pub returns : goal.returns
returns c = c.has.ensures ∙ (λ i. list_any (λ r. pairs_tie r.header.recipe c.args.id r.header.version c.args.version i) c.args.recipes.now.rows.now)
