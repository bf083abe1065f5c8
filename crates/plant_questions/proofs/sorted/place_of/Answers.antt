use Rattle.std.proofs.Common.{sym}
use Rattle.plant_questions.proofs.PutSplitsList.{goes_in}
use Rattle.plant_questions.proofs.sorted.place_of.Goals as goal

pub returns-in-Equal-clause-there : goal.returns-in-Equal-clause-there
returns-in-Equal-clause-there g c = (c.loop-i-test.true, goes_in g.R.HasKey.order c.args.row.now c.args.rows.now c.loop-i.i _ c.loop-i-test.true c.index-rows-i.is c.loop-i.invariant (sym c.in-Equal.ensures))
