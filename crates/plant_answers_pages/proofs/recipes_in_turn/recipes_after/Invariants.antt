use Rattle.std.proofs.Common.{◌≡◌, ◌++◌, ◌-◌, take, Some}
use Rattle.plant_trace.specs.HoldsIfHonest.{HoldsIfHonest}
use Rattle.plant_view.specs.DecisionInvariant.{DecisionInvariant}
use Rattle.plant_questions.specs.{most_found}
use Rattle.plant_answers_pages.specs.Finding.{recipes_left, IsWithin}
use Rattle.plant_answers_pages.proofs.recipes_in_turn.recipes_after.Given as goal

-- what was found, and what is left after the cursor
abbrev pub invariant-loop : goal.invariant-loop
invariant-loop g l =
    let e = g.V.Edges in
    let s = g.V.View.state l.fn.view in
    let p = l.fn.beginning in
    HoldsIfHonest e.honest e.kept e.frame l.fn.view l.view (DecisionInvariant s → (take most_found (recipes_left s p (Some p)) ≡ l.ids.items ++ take (most_found - l.counter) (recipes_left s p l.cursor)) × IsWithin p l.cursor)
