-- Sublots whose stock isn't what entered them less what left them.
use Rattle.std.specs.Prelude.{ℕ, ◌+◌, ◌==◌, List, Option}
use Rattle.plant_base.specs.{Sublot}
use Rattle.plant_tables_columns.specs.{BookedRow}
use Rattle.plant_check_rules.specs.{entries, exits, total_booked}
use Rattle.plant_requirements.specs.{in_column, fault_unless, first_reported, RowFault}
use Rattle.plant_requirements.specs.{sublot_key}
use Rattle.plant_requirements.specs.declared.table_names.Table.TheVariants as table
use Rattle.plant_requirements.specs.declared.fault.Column.TheVariants as column
use Rattle.plant_requirements.specs.declared.fault.Found.TheVariants as found
use Rattle.plant_requirements.specs.declared.fault.Wanted.TheVariants as wanted

-- the sublot, where its stock isn't what entered less what left
abbrev pub stock_found : ℕ → ℕ → Sublot → Option RowFault
stock_found entered left s = fault_unless (s.stock + left == entered) (in_column (table.Sublot, sublot_key s) column.Stock (found.Number s.stock) (wanted.Stock entered left))

abbrev pub stock_fault : List BookedRow → List BookedRow → Sublot → Option RowFault
stock_fault entering leaving s = stock_found (total_booked (entries entering s.lot s.number)) (total_booked (exits leaving s.lot s.number)) s

-- the first of them
abbrev pub stock_fault_in : List BookedRow → List Sublot → Option RowFault
stock_fault_in rows sublots = first_reported (stock_fault rows rows) sublots
