use Rattle.std.proofs.Common.{List, subst}
use Rattle.plant_trace.specs.{IsReached, Lists, Node}
use Rattle.plant_trace.proofs.HoldsIfHonest.{HoldsIfHonest-weaker}
use Rattle.plant_view.specs.{edges_of}
use Rattle.plant_answers_genealogy.proofs.ReachedIsTrace.{trace_is}
use Rattle.plant_answers_genealogy.proofs.traces.trace.Goals as goal

pub returns : goal.returns
returns g c =
    let s = g.V.View.state c.args.view.now in
    let direction = c.args.direction in
    let start = c.args.start in
    let nodes = c.in_ok-nodes.nodes.items in
    HoldsIfHonest-weaker
    (λ (listed : Lists (IsReached direction (g.V.Edges.pairs c.args.view.now) start) nodes).
    trace_is (edges_of s) direction start nodes
    (subst (λ (pairs : List (Node × Node)). Lists (IsReached direction pairs start) nodes) (g.met.V.View.pairs_of_state c.args.view.now) listed))
    c.in_ok-nodes.ensures.reported
