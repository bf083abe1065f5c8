use Rattle.plant_check.proofs.FallBreaksRule.{reported_breaks}
use Rattle.plant_check.proofs.numbers.first_decreasing.Goals as goal

pub returns-clause-breaks : goal.returns-clause-breaks
returns-clause-breaks g c = reported_breaks g.R.TimedRow.time_key_of g.R.TimedRow.early c.first_fall.result c.args.rows.now c.first_fall.ensures
