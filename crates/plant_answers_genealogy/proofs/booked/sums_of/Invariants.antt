use Rattle.std.proofs.Common.{◌≡◌, take}
use Rattle.std.specs.BTreeMap.{get}
use Rattle.plant_base.specs.{edge_order, EdgeRow}
use Rattle.plant_answers_genealogy.specs.{Fits, sum_at}
use Rattle.plant_answers_genealogy.proofs.booked.sums_of.Given as goal

abbrev pub invariant-loop-booking : goal.invariant-loop-booking
invariant-loop-booking l = Fits l.bookings → (e : EdgeRow) → get edge_order l.sums e ≡ sum_at (take l.booking-index l.bookings) e
