-- Stored rows: what their columns have, and their keys where these can be read.
use Rattle.std.specs.Prelude.{ℕ, nat_le, List, length, Option, if◌then◌else◌}
use Rattle.sqlite.specs.declared.types.Value.{Value}
use Rattle.sqlite.specs.declared.types.Value.TheVariants as value
use Rattle.sqlite.specs.Order.{Row, column}
use Rattle.plant_base.specs.{is_text}
use Rattle.plant_tables_columns.specs.{greatest_number, id_from, number_from}
use Rattle.plant_requirements.specs.{Found}
use Rattle.plant_requirements.specs.declared.fault.Found.TheVariants as found

-- a text of the desk as it is, and of any other its kind
abbrev pub found_text : List ℕ → Found
found_text bytes = if is_text bytes then found.Text bytes else if nat_le (length bytes) 60 then found.OtherText else found.LongText

abbrev pub found_in : Value → Found
found_in value.Null = found.Null
found_in (value.Int n) = found.Integer n
found_in (value.Real x) = found.Real
found_in (value.Text bytes) = found_text bytes
found_in (value.Blob bytes) = found.Blob

-- ---- keys

-- an id in the column of this index
abbrev pub id_at : Row → ℕ → Option (List ℕ)
id_at row at = id_from (column row at)

-- a number there that isn't below 0
abbrev pub number_at : Row → ℕ → Option ℕ
number_at row at = number_from 0 greatest_number (column row at)
