use Rattle.std.proofs.Common.{◌≡◌, map, take}
use Rattle.serde_json.specs.View.{view}
use Rattle.plant_text_answers.specs.{booking_data}
use Rattle.plant_text_answers.proofs.batch_answers.bookings_value.Given as goal

abbrev pub invariant-loop-booking : goal.invariant-loop-booking
invariant-loop-booking l = map view l.list.items ≡ map (booking_data l.taken) (take l.booking-index l.bookings)
