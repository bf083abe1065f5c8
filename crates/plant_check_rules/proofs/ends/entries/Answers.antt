use Rattle.std.proofs.Common.{◌∙◌, filter}
use Rattle.plant_requirements.proofs.SublotTests.{placed}
use Rattle.plant_check_rules.specs.{entered_by}
use Rattle.plant_check_rules.proofs.ends.entries.Goals as goal

pub returns : goal.returns
returns c = c.at.ensures ∙ (λ i. filter (λ r. placed (entered_by r.kind_code r) c.args.lot c.args.number i) c.args.entered.now.rows.now)
