use Rattle.plant_tables.proofs.TextsSelectAll.{all_selected}
use Rattle.plant_tables.proofs.select_texts.desk_readings.Goals as goal

pub returns-clause-texts : goal.returns-clause-texts
returns-clause-texts c = all_selected
