use Rattle.std.proofs.Common.{◌≡◌, take, filter_map, flat_map}
use Rattle.plant_trace.specs.HoldsIfHonest.{HoldsIfHonest}
use Rattle.plant_answers_genealogy.specs.{booked_at}
use Rattle.plant_answers_genealogy.proofs.booked.bookings_around.Given as goal

-- what is booked along the edges from the nodes so far
abbrev pub invariant-loop-node : goal.invariant-loop-node
invariant-loop-node g l =
    let e = g.V.Edges in
    let s = g.V.View.state l.fn.view in
    HoldsIfHonest e.honest e.kept e.frame l.fn.view l.view (l.rows.items ≡ flat_map (λ x. filter_map (booked_at l.nodes x) s.movements) (take l.node-index l.nodes))
