-- The JSON trees of answers about batches.
use Rattle.std.specs.Prelude.{Bool, true, false, if◌then◌else◌, List, map, codes}
use Rattle.serde_json.specs.Data.{Data, Items, boolean, string, array, object, member, no_members}
use Rattle.serde_json.specs.View.{items_of}
use Rattle.plant_base.specs.{batch_state_name}
use Rattle.plant_questions.specs.{BatchView, Booking, phases_in}
use Rattle.plant_text_answers.specs.Natural.{natural}

-- what a batch took, with the sublot
abbrev pub consumed_data : Booking → Data
consumed_data b = object (member (codes "amount") (natural b.amount) (member (codes "def") (string b.def) (member (codes "lot") (string b.lot)
    (member (codes "seq") (natural b.seq) (member (codes "sub") (natural b.sub) no_members)))))

-- what a batch brought
abbrev pub produced_data : Booking → Data
produced_data b = object (member (codes "amount") (natural b.amount) (member (codes "def") (string b.def) (member (codes "lot") (string b.lot)
    (member (codes "seq") (natural b.seq) no_members))))

abbrev pub booking_data : Bool → Booking → Data
booking_data taken b = if taken then consumed_data b else produced_data b

abbrev pub bookings_data : Bool → List Booking → Items
bookings_data taken bookings = items_of (map (booking_data taken) bookings)

abbrev pub batch_data : BatchView → Data
batch_data v = object (member (codes "attempt") (natural v.progress.attempt) (member (codes "batch") (string v.batch.id) (member (codes "closed") (boolean v.progress.closed)
    (member (codes "consumed") (array (bookings_data true v.consumed)) (member (codes "next") (natural v.progress.next) (member (codes "order") (string v.job.order.order)
    (member (codes "phases") (natural (phases_in v.lines)) (member (codes "produced") (array (bookings_data false v.produced)) (member (codes "recipe") (string v.job.order.recipe)
    (member (codes "size") (natural v.job.order.size) (member (codes "state") (string (batch_state_name v.progress.state)) (member (codes "version") (natural v.job.order.version) no_members))))))))))))
