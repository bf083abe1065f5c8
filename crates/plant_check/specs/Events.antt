-- Batches and events that break a rule.
use Rattle.std.specs.Prelude.{ℕ, Bool, true, false, not, ◌==◌, if◌then◌else◌, List, Option, Some, Result, Ok, Err}
use Rattle.plant_base.specs.{BatchEvent, BatchRow, ControlLine, Refusal}
use Rattle.plant_recipe.specs.contracts.progress.ProgressPartialEq.TheImpl.{ghosts as equal}
use Rattle.plant_recipe.specs.declared.progress.Progress.{Progress}
use Rattle.plant_recipe.specs.{run_of}
use Rattle.plant_view.specs.{phases_among, events_among}
use Rattle.plant_requirements.specs.{is_row_among, kept_progress}
use Rattle.plant_requirements.specs.{id_key, number_key}
use Rattle.plant_requirements.specs.{Column, Found, RowFault, Wanted, in_column, names_none, fault_unless, or_fault, first_reported}
use Rattle.plant_requirements.specs.declared.table_names.Table.TheVariants as table
use Rattle.plant_requirements.specs.declared.fault.Column.TheVariants as column
use Rattle.plant_requirements.specs.declared.fault.Found.TheVariants as found
use Rattle.plant_requirements.specs.declared.fault.Wanted.TheVariants as wanted

-- the fault of the batch: this is in a column, where that is wanted
abbrev pub batch_as : BatchRow → Column → Found → Wanted → RowFault
batch_as b c f w = in_column (table.Batch, id_key b.batch.id) c f w

abbrev pub number_as : BatchRow → Column → ℕ → ℕ → RowFault
number_as b c m n = batch_as b c (found.Number m) (wanted.Number n)

abbrev pub differ : Bool → Bool → Bool
differ true b = not b
differ false b = b

abbrev pub closed_number : Bool → ℕ
closed_number true = 1
closed_number false = 0

-- the first column, of attempt, next, closed and state, in which a batch has come elsewhere than its events lead to
abbrev pub progress_fault : Progress → BatchRow → RowFault
progress_fault p b =
    if not (p.attempt == b.attempt) then number_as b column.Attempt b.attempt p.attempt
    else (if not (p.next == b.next) then number_as b column.Next b.next p.next
    else (if differ p.closed b.closed then number_as b column.Closed (closed_number b.closed) (closed_number p.closed)
    else batch_as b column.State (found.State b.state) (wanted.State p.state)))

-- the batch, where one of its events was refused, or it has come elsewhere than they lead to
abbrev pub run_found : Result Progress Refusal → BatchRow → Option RowFault
run_found (Err refusal) b = Some (batch_as b column.State (found.State b.state) (wanted.Allowed refusal))
run_found (Ok p) b = fault_unless (equal.eq p (kept_progress b)) (progress_fault p b)

abbrev pub run_fault : List ControlLine → List BatchEvent → BatchRow → Option RowFault
run_fault control events b = run_found (run_of (phases_among control b.batch.id) (events_among events b.batch.id)) b

-- the event, where its batch isn't there
abbrev pub event_fault : List BatchRow → BatchEvent → Option RowFault
event_fault batches e = fault_unless (is_row_among batches e.batch) (names_none (table.BatchEvent, number_key e.seq) column.Batch e.batch table.Batch)

abbrev pub event_fault_in : List ControlLine → List BatchEvent → List BatchRow → Option RowFault
event_fault_in control events batches = or_fault (first_reported (run_fault control events) batches) (first_reported (event_fault batches) events)
