use Rattle.std.proofs.Common.{◌≡◌, drop}
use Rattle.plant_tables_columns.specs.{all_from, receipt_from}
use Rattle.plant_tables_columns.proofs.DecodedLists.{reads_on}
use Rattle.plant_tables_columns.proofs.receipts.decode_receipts.Given as goal

abbrev pub invariant-loop-row : goal.invariant-loop-row
invariant-loop-row l = all_from receipt_from l.stored ≡ reads_on receipt_from l.rows.items (drop l.row-index l.stored)
