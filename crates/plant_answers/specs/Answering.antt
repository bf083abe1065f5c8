-- What is found for an answer about a batch.
use Rattle.std.specs.Prelude.{◌≡◌, ℕ, List, map}
use Rattle.plant_base.specs.{State, control_lines_of, BatchRow}
use Rattle.plant_view.specs.{batch_row, events_of}
use Rattle.plant_answers.specs.BatchViews.{measured_line}
use Rattle.plant_answers.specs.declared.batch_answers.FoundBatch.{FoundBatch}
use Rattle.plant_answers_genealogy.specs.{AreBookingsOf}

-- the row's columns are the fold of the events of its batch
abbrev pub IsRowOf : State → BatchRow → Type 0
IsRowOf s r = r ≡ batch_row s.control_lines s.events r.batch

-- what the other tables have of the batch of this id
pub record IsFoundOf (s : State) (batch : List ℕ) (found : FoundBatch) : Type 0 where
  pub lines : found.lines.items ≡ map (measured_line s.definitions) (control_lines_of s batch)
  pub events : found.events.items ≡ events_of s batch
  pub bookings : AreBookingsOf s batch found.bookings
