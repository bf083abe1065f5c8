-- How rows of a table are read and stored.
use Rattle.std.proofs.Common.{◌≡◌, Option, Some}
use Rattle.sqlite.specs.Order.{Row}
use Rattle.plant_tables_columns.specs.{read_row}
use Rattle.plant_tables_columns.specs.Columns.{Columns}
use Rattle.plant_tables_columns.proofs.ColumnLaws.{AreLawful, row_back, row_again, row_keeps}

-- How rows are read and stored: what was read has the columns of the row, but where it isn't whole; a valid one that is
-- whole is read of its own columns; and each that was read is valid.
pub record Reads {A : Type 0} (row_from : Row → Option A) (stored : A → Row) (valid whole : A → Type 0) : Type 0 where
  pub back : (row : Row) (a : A) → row_from row ≡ Some a → whole a → row ≡ stored a
  pub again : (a : A) → valid a → whole a → row_from (stored a) ≡ Some a
  pub keeps : (row : Row) (a : A) → row_from row ≡ Some a → valid a

pub reads : {A : Type 0} (c : Columns A) {valid whole : A → Type 0} → AreLawful c valid whole → Reads (read_row c) c.stored valid whole
reads c laws = record { back = row_back laws; again = row_again laws; keeps = row_keeps laws }
