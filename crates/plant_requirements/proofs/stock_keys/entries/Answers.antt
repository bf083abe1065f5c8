use Rattle.std.proofs.Common.{◌∙◌, filter}
use Rattle.plant_stock.specs.{goes_to}
use Rattle.plant_requirements.proofs.SublotTests.{placed}
use Rattle.plant_requirements.proofs.stock_keys.entries.Goals as goal

pub returns : goal.returns
returns c = c.at.ensures ∙ (λ i. filter (λ m. placed (goes_to m.kind m.lot m.sub) c.args.place.0 c.args.place.1 i) c.args.entered.now.rows.now)
