use Rattle.std.proofs.Common.{◌≡◌, ◌+◌, drop}
use Rattle.std.specs.List.{position_from}
use Rattle.plant_trace.specs.HoldsIfHonest.{HoldsIfHonest}
use Rattle.plant_rules.specs.{is_bad_order}
use Rattle.plant_rules.proofs.orders.first_bad_order.Given as goal

-- the first bad order isn't among those so far
abbrev pub invariant-loop-index : goal.invariant-loop-index
invariant-loop-index g l =
    let e = g.V.Edges in
    let bad = is_bad_order (g.V.View.state l.fn.view) l.listed.rows.now l.refusal in
    HoldsIfHonest e.honest e.kept e.frame l.fn.view l.view (position_from bad (l.index + 1) (drop l.index l.orders) ≡ position_from bad 1 l.orders)
