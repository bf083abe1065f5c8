use Rattle.plant_tables.proofs.TextsSelectAll.{meta_selected}
use Rattle.plant_tables.proofs.finding.read_meta.Goals as goal

pub read_table-requires : goal.read_table-requires
read_table-requires g c = meta_selected
