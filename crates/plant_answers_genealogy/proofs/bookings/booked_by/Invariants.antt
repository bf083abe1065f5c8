use Rattle.std.proofs.Common.{◌≡◌, take, filter_map}
use Rattle.plant_trace.specs.HoldsIfHonest.{HoldsIfHonest}
use Rattle.plant_answers_genealogy.specs.{booked_on}
use Rattle.plant_answers_genealogy.proofs.bookings.booked_by.Given as goal

-- what the movements so far book
abbrev pub invariant-loop-movement : goal.invariant-loop-movement
invariant-loop-movement g l =
    let e = g.V.Edges in
    let s = g.V.View.state l.fn.view in
    HoldsIfHonest e.honest e.kept e.frame l.fn.view l.view (l.rows.items ≡ filter_map (booked_on l.side s l.batch) (take l.movement-index l.movements))
