use Rattle.plant_answers.proofs.PlainTables.{plain_tables}
use Rattle.plant_answers.proofs.laws.tables_law.Goals as goal

pub returns : goal.returns
returns c k s whole = plain_tables k s whole
