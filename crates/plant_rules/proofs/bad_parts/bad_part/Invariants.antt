use Rattle.std.proofs.Common.{◌≡◌, ◌+◌, drop}
use Rattle.std.specs.List.{position_from}
use Rattle.plant_trace.specs.HoldsIfHonest.{HoldsIfHonest}
use Rattle.plant_view.specs.DecisionInvariant.{DecisionInvariant}
use Rattle.plant_rules.specs.{is_bad_part}
use Rattle.plant_rules.proofs.bad_parts.bad_part.Given as goal

-- the first bad part isn't among those so far
abbrev pub invariant-loop-index : goal.invariant-loop-index
invariant-loop-index g l =
    let e = g.V.Edges in
    let s = g.V.View.state l.fn.view in
    let bad = is_bad_part s l.parts l.refusal in
    HoldsIfHonest e.honest e.kept e.frame l.fn.view l.view (DecisionInvariant s → position_from bad (l.index + 1) (drop l.index l.parts) ≡ position_from bad 1 l.parts)
