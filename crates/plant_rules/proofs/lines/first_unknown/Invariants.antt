use Rattle.std.proofs.Common.{◌≡◌, ◌+◌, drop, not}
use Rattle.std.specs.List.{position_from}
use Rattle.plant_base.specs.{RecipeLine}
use Rattle.plant_trace.specs.HoldsIfHonest.{HoldsIfHonest}
use Rattle.plant_view.specs.{is_known}
use Rattle.plant_rules.proofs.lines.first_unknown.Given as goal

-- the first line of an unknown definition isn't among those so far
abbrev pub invariant-loop-index : goal.invariant-loop-index
invariant-loop-index g l =
    let e = g.V.Edges in
    let unknown = λ (r : RecipeLine). not (is_known (g.V.View.state l.fn.view).definitions r) in
    HoldsIfHonest e.honest e.kept e.frame l.fn.view l.view (position_from unknown (l.index + 1) (drop l.index l.lines) ≡ position_from unknown 1 l.lines)
