use Rattle.std.proofs.Common.{◌∙◌, filter}
use Rattle.plant_requirements.proofs.KeyTests.{pairs_tie}
use Rattle.plant_requirements.proofs.plan_keys.lines_of.Goals as goal

pub returns : goal.returns
returns c = c.at.ensures ∙ (λ i. filter (λ r. pairs_tie r.recipe c.args.id r.version c.args.version i) c.args.lines.now.rows.now)
