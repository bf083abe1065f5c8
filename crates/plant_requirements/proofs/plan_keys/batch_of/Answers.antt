use Rattle.std.proofs.Common.{◌∙◌, find}
use Rattle.plant_requirements.proofs.KeyTests.{ids_tie}
use Rattle.plant_requirements.proofs.plan_keys.batch_of.Goals as goal

pub returns : goal.returns
returns c = c.first.ensures ∙ (λ i. find (λ b. ids_tie b.batch.job c.args.order i) c.args.batches.now.rows.now)
