use Rattle.std.proofs.Common.{◌≡◌, take, map}
use Rattle.plant_trace.specs.HoldsIfHonest.{HoldsIfHonest}
use Rattle.plant_answers_pages.specs.{open_batch}
use Rattle.plant_answers_pages.proofs.open_batches.with_phases.Given as goal

-- the batches so far, each with its phases
abbrev pub invariant-loop-batch : goal.invariant-loop-batch
invariant-loop-batch g l =
    let e = g.V.Edges in
    let s = g.V.View.state l.fn.view in
    HoldsIfHonest e.honest e.kept e.frame l.fn.view l.view (l.rows.items ≡ map (open_batch s) (take l.batch-index l.batches))
