use Rattle.std.proofs.Common.{◌≡◌, take, map}
use Rattle.plant_trace.specs.HoldsIfHonest.{HoldsIfHonest}
use Rattle.plant_answers.specs.{measured_line}
use Rattle.plant_answers.proofs.batch_answers.lines_with_units.Given as goal

-- the lines so far, each with its unit
abbrev pub invariant-loop-line : goal.invariant-loop-line
invariant-loop-line g l =
    let e = g.V.Edges in
    let s = g.V.View.state l.fn.view in
    HoldsIfHonest e.honest e.kept e.frame l.fn.view l.view (l.rows.items ≡ map (measured_line s.definitions) (take l.line-index l.lines))
