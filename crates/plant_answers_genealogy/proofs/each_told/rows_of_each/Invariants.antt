use Rattle.std.proofs.Common.{◌≡◌, fold, take, filter_map}
use Rattle.plant_trace.specs.HoldsIfHonest.{HoldsIfHonest}
use Rattle.plant_view.specs.DecisionInvariant.{DecisionInvariant}
use Rattle.plant_answers_genealogy.specs.{AreKnown}
use Rattle.plant_answers_genealogy.proofs.each_told.rows_of_each.Given as goal

-- what is reported of the items so far, and what is known after them
abbrev pub invariant-loop-item : goal.invariant-loop-item
invariant-loop-item g l =
    let e = g.V.Edges in
    let s = g.V.View.state l.fn.view in
    let so_far = take l.item-index l.items in
    HoldsIfHonest e.honest e.kept e.frame l.fn.view l.view (DecisionInvariant s → AreKnown s l.fn.known → (l.rows.items ≡ filter_map (g.T.RowOf.reported s) so_far) × AreKnown s l.known × (l.known ≡ fold (g.T.RowOf.known_after s) l.fn.known so_far))
