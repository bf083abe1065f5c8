use Rattle.std.proofs.Common.{◌∙◌}
use Rattle.std.specs.List.{list_any}
use Rattle.plant_requirements.proofs.KeyTests.{ids_tie}
use Rattle.plant_check_rules.proofs.lots.has_lot.Goals as goal

pub returns : goal.returns
returns c = c.has.ensures ∙ (λ i. list_any (λ l. ids_tie l.id c.args.id i) c.args.lots.now.rows.now)
