use Rattle.std.proofs.Common.{◌∙◌, find}
use Rattle.plant_requirements.proofs.KeyTests.{ids_tie}
use Rattle.plant_requirements.proofs.plan_keys.job_at.Goals as goal

pub returns : goal.returns
returns c = c.first.ensures ∙ (λ i. find (λ j. ids_tie j.order.order c.args.id i) c.args.jobs.now.rows.now)
