use Rattle.std.proofs.Common.{◌∙◌, ap, length, ◌==◌, filter}
use Rattle.plant_requirements.proofs.KeyTests.{ids_tie}
use Rattle.plant_requirements.proofs.plan_keys.has_one_batch.Goals as goal

pub returns : goal.returns
returns c = ap (λ rows. length rows == 1) (c.at.ensures ∙ (λ i. filter (λ b. ids_tie b.batch.job c.args.order i) c.args.batches.now.rows.now))
