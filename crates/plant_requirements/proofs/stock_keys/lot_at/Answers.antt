use Rattle.std.proofs.Common.{◌∙◌, find}
use Rattle.plant_requirements.proofs.KeyTests.{ids_tie}
use Rattle.plant_requirements.proofs.stock_keys.lot_at.Goals as goal

pub returns : goal.returns
returns c = c.first.ensures ∙ (λ i. find (λ l. ids_tie l.id c.args.id i) c.args.lots.now.rows.now)
