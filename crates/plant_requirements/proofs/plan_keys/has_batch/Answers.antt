use Rattle.std.proofs.Common.{◌∙◌}
use Rattle.std.specs.List.{list_any}
use Rattle.plant_requirements.proofs.KeyTests.{ids_tie}
use Rattle.plant_requirements.proofs.plan_keys.has_batch.Goals as goal

pub returns : goal.returns
returns c = c.has.ensures ∙ (λ i. list_any (λ b. ids_tie b.batch.id c.args.id i) c.args.batches.now.rows.now)
