-- What a batch took and brought.
use Rattle.std.specs.Prelude.{◌≡◌, ℕ, Bool, false, ◌&&◌, if◌then◌else◌, List, Option, Some, None, option_map, filter_map, sum_by}
use Rattle.plant_base.specs.{State, same, definition_at, lot_at, Definition, Lot, Movement, MovementKind}
use Rattle.plant_base.specs.declared.rows.MovementKind.TheVariants.{Consumed, Produced}
use Rattle.plant_view.specs.{is_scrap}
use Rattle.plant_questions.specs.{Booking}
use Rattle.plant_answers_genealogy.specs.declared.bookings.BatchBookings.{BatchBookings}
use Rattle.plant_answers_genealogy.specs.declared.bookings.Side.{Side}
use Rattle.plant_answers_genealogy.specs.declared.bookings.Side.TheVariants as side

-- the batch took the movement's amount
abbrev pub is_consumed_by : List ℕ → MovementKind → Bool
is_consumed_by batch (Consumed by) = same by batch
is_consumed_by batch _ = false

-- the batch brought the movement's amount
abbrev pub is_produced_by : List ℕ → MovementKind → Bool
is_produced_by batch (Produced by) = same by batch
is_produced_by batch _ = false

-- what was scrapped of a lot, of all its sublots
abbrev pub scrapping : Movement → List ℕ → ℕ
scrapping m lot = if is_scrap m.kind && same m.lot lot then m.amount else 0

unfoldable pub scrapped_of : List Movement → List ℕ → ℕ
scrapped_of movements lot = sum_by (λ m. scrapping m lot) movements

-- a movement of a lot of this definition, of which so much was scrapped
abbrev pub booking : Movement → ℕ → Definition → Booking
booking m scrapped d = record {
  seq = m.seq;
  lot = m.lot;
  sub = m.sub;
  def = d.id;
  unit = d.unit;
  amount = m.amount;
  scrapped = scrapped;
  at = m.at;
  by = m.by;
  note = m.note;
}

-- the definition of a lot that is there
abbrev pub definition_of : State → Option Lot → Option Definition
definition_of s None = None
definition_of s (Some l) = definition_at s l.def

-- the lot of a movement and its definition are there in a consistent state
abbrev pub booking_in : State → ℕ → Movement → Option Booking
booking_in s scrapped m = option_map (booking m scrapped) (definition_of s (lot_at s m.lot))

abbrev pub consumption : State → List ℕ → Movement → Option Booking
consumption s batch m = if is_consumed_by batch m.kind then booking_in s 0 m else None

abbrev pub production : State → List ℕ → Movement → Option Booking
production s batch m = if is_produced_by batch m.kind then booking_in s (scrapped_of s.movements m.lot) m else None

abbrev pub booked_on : Side → State → List ℕ → Movement → Option Booking
booked_on side.Consumed = consumption
booked_on side.Produced = production

-- what the batch of this id took and brought
pub record AreBookingsOf (s : State) (batch : List ℕ) (found : BatchBookings) : Type 0 where
  pub consumed : found.consumed.items ≡ filter_map (consumption s batch) s.movements
  pub produced : found.produced.items ≡ filter_map (production s batch) s.movements
