use Rattle.plant_tables_columns.proofs.MovementColumns.{movement_again}
use Rattle.plant_tables_columns.proofs.RecallColumns.{recall_again}
use Rattle.plant_tables.proofs.RowsRepresentTables.{represents_for}
use Rattle.plant_tables.proofs.RowsReadAgain.{read_again}
use Rattle.plant_tables.proofs.TablesOfRows.{same_tables, whole_rows}
use Rattle.plant_tables.proofs.desk_rows.reading_laws.Goals as goal

pub returns : goal.returns
returns c = record {
  stand_for = represents_for;
  read_again = λ schema db t x holds lacks ordered valid are. read_again schema db t holds lacks ordered valid x are;
  whole = whole_rows;
  tables = same_tables;
  booked = movement_again;
  stated = recall_again;
}
