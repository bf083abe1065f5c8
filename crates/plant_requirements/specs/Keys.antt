-- The keys of rows.
use Rattle.std.specs.Prelude.{ℕ, List}
use Rattle.plant_base.specs.{edge_kind_number, mark_kind_number, ControlLine, EdgeRow, Header, Hold, Mark, MasterLine, Sublot}
use Rattle.plant_requirements.specs.First.{RowKey}
use Rattle.plant_requirements.specs.declared.fault.RowKey.TheVariants as key

abbrev pub id_key : List ℕ → RowKey
id_key id = key.Id id

abbrev pub number_key : ℕ → RowKey
number_key n = key.Number n

abbrev pub recipe_key : Header → RowKey
recipe_key h = key.IdNumber h.recipe h.version

abbrev pub recipe_line_key : MasterLine → RowKey
recipe_line_key l = key.IdNumbers l.recipe l.version l.number

abbrev pub control_line_key : ControlLine → RowKey
control_line_key l = key.IdNumber l.batch l.number

abbrev pub sublot_key : Sublot → RowKey
sublot_key s = key.IdNumber s.lot s.number

abbrev pub hold_key : Hold → RowKey
hold_key h = key.Ids h.lot h.id

abbrev pub booked_key : ℕ → ℕ → RowKey
booked_key seq line = key.Numbers seq line

abbrev pub edge_key : EdgeRow → RowKey
edge_key e = key.NumberIds (edge_kind_number e.kind) e.from e.to

abbrev pub mark_key : Mark → RowKey
mark_key m = key.IdNumberId m.recall (mark_kind_number m.kind) m.id
