use Rattle.std.proofs.Common.{◌≡◌, ◌++◌, List, take, filter_map}
use Rattle.plant_trace.specs.{Node}
use Rattle.plant_answers_genealogy.specs.{IsSetOf, booked_at}
use Rattle.plant_answers_genealogy.proofs.booked.push_bookings.Given as goal

abbrev pub invariant-loop-movement : goal.invariant-loop-movement
invariant-loop-movement l = (nodes : List Node) → IsSetOf nodes l.among → l.rows.items ≡ l.initial.rows.items ++ filter_map (booked_at nodes l.at) (take l.movement-index l.movements)
