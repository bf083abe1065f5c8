-- Movements that break a rule.
use Rattle.std.specs.Prelude.{ℕ, List, Option, Some, None, is_some}
use Rattle.plant_base.specs.{BatchRow, ControlLine, Lot, Movement, Sublot}
use Rattle.plant_stock.specs.{goes_to, comes_from}
use Rattle.plant_view.specs.{batch_by}
use Rattle.plant_tables_columns.specs.{movement_from, BookedRow}
use Rattle.plant_requirements.specs.{is_there, is_batch_there, is_of_right_definition, is_of_right_merge}
use Rattle.plant_requirements.specs.{booked_key}
use Rattle.plant_requirements.specs.{Column, Found, RowFault, Wanted, in_column, fault_unless, or_fault, first_reported}
use Rattle.plant_requirements.specs.declared.table_names.Table.TheVariants as table
use Rattle.plant_requirements.specs.declared.fault.Column.TheVariants as column
use Rattle.plant_requirements.specs.declared.fault.Found.TheVariants as found
use Rattle.plant_requirements.specs.declared.fault.Wanted.TheVariants as wanted

-- the row, where its columns aren't those of its kind
abbrev pub kind_fault : BookedRow → Option RowFault
kind_fault r = fault_unless (is_some (movement_from r)) (in_column (table.Movement, booked_key r.seq r.line) column.Kind (found.MovementKind r.kind_code) wanted.Columns)

-- the fault of the movement: this is in a column, or in the row as a whole, where that is wanted
abbrev pub movement_as : Movement → Option Column → Found → Wanted → RowFault
movement_as m c f w = record {
  table = table.Movement;
  key = booked_key m.seq m.line;
  column = c;
  found = f;
  wanted = w;
}

-- the id, where there is one
abbrev pub id_found : Option (List ℕ) → Found
id_found None = found.Row
id_found (Some id) = found.Id id

-- the movement, where the sublot that it brings its amount to isn't there, the one that it takes it from, or the batch that it names
abbrev pub naming_fault : List Sublot → List BatchRow → Movement → Option RowFault
naming_fault sublots batches m =
    or_fault (fault_unless (is_there sublots (goes_to m.kind m.lot m.sub)) (movement_as m None found.Row (wanted.Key table.Sublot)))
    (or_fault (fault_unless (is_there sublots (comes_from m.kind m.lot m.sub)) (movement_as m (Some column.Lot) (found.Id m.lot) (wanted.Key table.Sublot)))
    (fault_unless (is_batch_there batches (batch_by m.kind)) (movement_as m (Some column.Batch) (id_found (batch_by m.kind)) (wanted.Key table.Batch))))

abbrev pub movement_fault : List Lot → List Sublot → List BatchRow → List ControlLine → List Movement → Movement → Option RowFault
movement_fault lots sublots batches control ms m =
    or_fault (naming_fault sublots batches m)
    (or_fault (fault_unless (is_of_right_definition lots control m.kind m.lot) (movement_as m (Some column.Lot) (found.Id m.lot) wanted.RightDefinition))
    (fault_unless (is_of_right_merge ms m) (movement_as m None found.Row wanted.Parts)))

-- the first row whose columns aren't those of its kind, or else the first movement that breaks its rule
abbrev pub movement_fault_in : List BookedRow → List Lot → List Sublot → List BatchRow → List ControlLine → List Movement → Option RowFault
movement_fault_in rows lots sublots batches control ms = or_fault (first_reported kind_fault rows) (first_reported (movement_fault lots sublots batches control ms) ms)
