use Rattle.std.proofs.Common.{◌≡◌, drop}
use Rattle.plant_tables_columns.specs.{all_from}
use Rattle.plant_tables_columns.proofs.DecodedLists.{reads_on}
use Rattle.plant_tables_columns.proofs.decoded.decode_all.Given as goal

abbrev pub invariant-loop-row : goal.invariant-loop-row
invariant-loop-row g l = all_from g.R.Decoded.row_from l.stored ≡ reads_on g.R.Decoded.row_from l.rows.items (drop l.row-index l.stored)
