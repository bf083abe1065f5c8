use Rattle.std.proofs.Common.{◌∙◌, filter}
use Rattle.plant_requirements.proofs.KeyTests.{ids_tie}
use Rattle.plant_requirements.proofs.plan_keys.control_of.Goals as goal

pub returns : goal.returns
returns c = c.at.ensures ∙ (λ i. filter (λ l. ids_tie l.batch c.args.batch i) c.args.lines.now.rows.now)
