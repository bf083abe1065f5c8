-- Recalls that break a rule.
use Rattle.std.specs.Prelude.{ℕ, List, Option, is_some}
use Rattle.plant_base.specs.{Lot, Recall}
use Rattle.plant_tables_columns.specs.{recall_from, StatedRecall}
use Rattle.plant_requirements.specs.{lot_among, is_timely}
use Rattle.plant_requirements.specs.{id_key}
use Rattle.plant_requirements.specs.{Column, Found, RowFault, Wanted, in_column, fault_unless, or_fault, first_reported}
use Rattle.plant_requirements.specs.declared.table_names.Table.TheVariants as table
use Rattle.plant_requirements.specs.declared.fault.Column.TheVariants as column
use Rattle.plant_requirements.specs.declared.fault.Found.TheVariants as found
use Rattle.plant_requirements.specs.declared.fault.Wanted.TheVariants as wanted

-- the fault of the recall: this is in a column, where that is wanted
abbrev pub recall_as : List ℕ → Column → Found → Wanted → RowFault
recall_as id c f w = in_column (table.Recall, id_key id) c f w

-- the row, where the columns of its lifting aren't those of its state
abbrev pub lifting_fault : StatedRecall → Option RowFault
lifting_fault r = fault_unless (is_some (recall_from r)) (recall_as r.id column.State found.Row wanted.Columns)

-- the recall, by its own moment, where its moments don't fit
abbrev pub untimely : Recall → RowFault
untimely r = recall_as r.id column.At (found.Number r.at) wanted.Between

-- the recall, where its lot isn't there, or its moments don't fit
abbrev pub recall_fault : ℕ → List Lot → Recall → Option RowFault
recall_fault at lots r =
    or_fault (fault_unless (is_some (lot_among lots r.lot)) (recall_as r.id column.Lot (found.Id r.lot) (wanted.Key table.Lot)))
    (fault_unless (is_timely at r) (untimely r))

-- the first row whose columns aren't those of its state, or else the first recall that breaks its rule
abbrev pub recall_fault_in : ℕ → List StatedRecall → List Lot → List Recall → Option RowFault
recall_fault_in at rows lots recalls = or_fault (first_reported lifting_fault rows) (first_reported (recall_fault at lots) recalls)
