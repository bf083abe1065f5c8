use Rattle.std.proofs.Common.{◌≡◌, take, map}
use Rattle.plant_trace.specs.HoldsIfHonest.{HoldsIfHonest}
use Rattle.plant_answers_pages.specs.{recipe_line}
use Rattle.plant_answers_pages.proofs.recipe_answers.each_with_unit.Given as goal

-- the lines so far, each with its unit
abbrev pub invariant-loop-line : goal.invariant-loop-line
invariant-loop-line g l =
    let e = g.V.Edges in
    let s = g.V.View.state l.fn.view in
    HoldsIfHonest e.honest e.kept e.frame l.fn.view l.view (l.rows.items ≡ map (recipe_line s) (take l.line-index l.lines))
