use Rattle.plant_answers.specs.Stock.{stock_of}
use Rattle.plant_answers.proofs.stocks.stock_of.Goals as goal

pub returns : goal.returns
returns c = λ i. record (stock_of c.args.lots.now c.args.definition) { lots = c.count_of.ensures i; usable = c.total_in-usable.ensures i; held = c.total_in-held.ensures i; recalled = c.total_in-recalled.ensures i }
