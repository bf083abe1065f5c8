use Rattle.std.proofs.Common.{map, ap, ◌∙◌, take_all}
use Rattle.serde_json.specs.Data.{array}
use Rattle.serde_json.specs.View.{items_of}
use Rattle.serde_json.proofs.Views.{view-Array}
use Rattle.plant_text_answers.specs.{booking_data}
use Rattle.plant_text_answers.proofs.batch_answers.bookings_value.Goals as goal

pub returns : goal.returns
returns c =
    view-Array c.loop-booking.list
    ∙ ap (λ ds. array (items_of ds)) (c.loop-booking.invariant ∙ ap (map (booking_data c.args.taken)) (take_all c.loop-booking.booking-index c.args.bookings.now c.loop-booking-test.false))
