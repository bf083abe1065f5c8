use Rattle.std.proofs.Common.{◌∙◌, filter}
use Rattle.plant_requirements.proofs.KeyTests.{ids_tie}
use Rattle.plant_check_rules.proofs.lots.sublots_of.Goals as goal

pub returns : goal.returns
returns c = c.at.ensures ∙ (λ i. filter (λ s. ids_tie s.lot c.args.lot i) c.args.sublots.now.rows.now)
