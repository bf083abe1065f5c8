-- What was booked of a definition.
use Rattle.std.specs.Prelude.{ℕ, if◌then◌else◌, List, sum_by}
use Rattle.plant_base.specs.{same}
use Rattle.plant_questions.specs.declared.question.Booking.{Booking}

-- what a booking counts for a definition
abbrev pub amount_of : List ℕ → Booking → ℕ
amount_of def b = if same b.def def then b.amount else 0

-- how much of a definition was booked
unfoldable pub booked_of : List ℕ → List Booking → ℕ
booked_of def bookings = sum_by (amount_of def) bookings
