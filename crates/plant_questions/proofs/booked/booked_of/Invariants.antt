use Rattle.std.proofs.Common.{◌≡◌, ◌*◌, ◌≤◌, take}
use Rattle.plant_base.specs.{greatest_amount}
use Rattle.plant_questions.specs.{booked_of}
use Rattle.plant_questions.proofs.booked.booked_of.Given as goal

abbrev pub invariant-loop-booking : goal.invariant-loop-booking
invariant-loop-booking l = record {
  sum : l.booked ≡ booked_of l.def (take l.booking-index l.bookings);
  small : l.booked ≤ greatest_amount * l.booking-index;
}
