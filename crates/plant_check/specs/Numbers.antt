-- Movements, events, batches and holds whose number or moment breaks a rule.
use Rattle.std.specs.Prelude.{ℕ, nat_le, List, [], ◌∷◌, Option, Some, None}
use Rattle.plant_base.specs.{BatchEvent, BatchRow, Hold, Movement}
use Rattle.plant_stock.specs.{comes_from}
use Rattle.plant_requirements.specs.{is_given, is_next_line, is_apart, is_entered_before, is_no_later}
use Rattle.plant_requirements.specs.{booked_key, id_key, number_key, hold_key}
use Rattle.plant_check.specs.Movements.{movement_as}
use Rattle.plant_requirements.specs.{Column, Found, RowKey, RowFault, Table, Wanted, in_column, fault_unless, or_fault, first_reported}
use Rattle.plant_requirements.specs.declared.table_names.Table.TheVariants as table
use Rattle.plant_requirements.specs.declared.fault.Column.TheVariants as column
use Rattle.plant_requirements.specs.declared.fault.Found.TheVariants as found
use Rattle.plant_requirements.specs.declared.fault.Wanted.TheVariants as wanted

-- ---- numbers

-- the movement, where it isn't the line that follows the one before it
abbrev pub line_fault : Option Movement → Movement → Option RowFault
line_fault before m = fault_unless (is_next_line before m) (movement_as m (Some column.Line) (found.Number m.line) wanted.NextLine)

-- the first of them
abbrev pub line_fault_in : Option Movement → List Movement → Option RowFault
line_fault_in before [] = None
line_fault_in before (m ∷ ms) = or_fault (line_fault before m) (line_fault_in (Some m) ms)

-- the movement, where another number is wanted
abbrev pub number_as : Movement → Wanted → RowFault
number_as m w = movement_as m (Some column.Seq) (found.Number m.seq) w

-- the movement, where its number wasn't given, is that of an event, or isn't above those of what entered its sublot
abbrev pub number_fault : ℕ → List BatchEvent → List Movement → Movement → Option RowFault
number_fault greatest events ms m =
    or_fault (fault_unless (is_given greatest m.seq) (number_as m (wanted.Given greatest)))
    (or_fault (fault_unless (is_apart events m) (number_as m wanted.Apart))
    (fault_unless (is_entered_before ms m.seq (comes_from m.kind m.lot m.sub)) (number_as m wanted.Later)))

-- the fault of the event: this is in a column, where that is wanted
abbrev pub event_as : BatchEvent → Column → Found → Wanted → RowFault
event_as e c f w = in_column (table.BatchEvent, number_key e.seq) c f w

-- the event, where its number wasn't given
abbrev pub given_fault : ℕ → BatchEvent → Option RowFault
given_fault greatest e = fault_unless (is_given greatest e.seq) (event_as e column.Seq (found.Number e.seq) (wanted.Given greatest))

abbrev pub number_fault_in : ℕ → List BatchEvent → List Movement → Option RowFault
number_fault_in greatest events ms =
    or_fault (line_fault_in None ms)
    (or_fault (first_reported (number_fault greatest events ms) ms) (first_reported (given_fault greatest) events))

-- ---- moments

-- the row of the table, where its moment is later than the desk's
abbrev pub moment_fault : ℕ → Table → RowKey → ℕ → Option RowFault
moment_fault at t k moment = fault_unless (nat_le moment at) (in_column (t, k) column.At (found.Number moment) (wanted.NotAfter at))

abbrev pub late_movement : ℕ → Movement → Option RowFault
late_movement at m = moment_fault at table.Movement (booked_key m.seq m.line) m.at

abbrev pub late_event : ℕ → BatchEvent → Option RowFault
late_event at e = moment_fault at table.BatchEvent (number_key e.seq) e.at

abbrev pub late_batch : ℕ → BatchRow → Option RowFault
late_batch at b = moment_fault at table.Batch (id_key b.batch.id) b.batch.at

abbrev pub late_hold : ℕ → Hold → Option RowFault
late_hold at h = moment_fault at table.Hold (hold_key h) h.at

-- the first movement, event, batch or hold that is later than the desk's moment
abbrev pub late_fault_in : ℕ → List Movement → List BatchEvent → List BatchRow → List Hold → Option RowFault
late_fault_in at ms es batches holds =
    or_fault (first_reported (late_movement at) ms)
    (or_fault (first_reported (late_event at) es)
    (or_fault (first_reported (late_batch at) batches) (first_reported (late_hold at) holds)))

-- ---- moments that fall

-- that the movement is earlier than this row
abbrev pub movement_before : ℕ × ℕ → Movement → RowFault
movement_before before m = movement_as m (Some column.At) (found.Number m.at) (wanted.NotBefore before.1)

-- and the event
abbrev pub event_before : ℕ × ℕ → BatchEvent → RowFault
event_before before e = event_as e column.At (found.Number e.at) (wanted.NotBefore before.1)

-- the first row that is earlier than the one before it, which has a lower number
abbrev pub fall_fault_in : {R : Type 0} → (R → ℕ × ℕ) → (ℕ × ℕ → R → RowFault) → ℕ × ℕ → List R → Option RowFault
fall_fault_in time_key_of early before [] = None
fall_fault_in time_key_of early before (r ∷ rs) = or_fault (fault_unless (is_no_later before (time_key_of r)) (early before r)) (fall_fault_in time_key_of early (time_key_of r) rs)
