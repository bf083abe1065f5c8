use Rattle.std.proofs.Common.{◌∙◌, find}
use Rattle.plant_requirements.proofs.KeyTests.{pairs_tie}
use Rattle.plant_requirements.proofs.plan_keys.recipe_at.Goals as goal

pub returns : goal.returns
returns c = c.first.ensures ∙ (λ i. find (λ r. pairs_tie r.header.recipe c.args.id r.header.version c.args.version i) c.args.recipes.now.rows.now)
