use Rattle.std.proofs.Common.{◌∙◌, filter}
use Rattle.plant_requirements.proofs.KeyTests.{ids_tie}
use Rattle.plant_requirements.proofs.plan_keys.events_of.Goals as goal

pub returns : goal.returns
returns c = c.at.ensures ∙ (λ i. filter (λ e. ids_tie e.batch c.args.batch i) c.args.events.now.rows.now)
