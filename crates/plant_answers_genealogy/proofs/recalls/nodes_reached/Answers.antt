use Rattle.std.proofs.Common.{List, subst}
use Rattle.plant_trace.specs.{Lists, IsRecalled, Node}
use Rattle.plant_trace.proofs.HoldsIfHonest.{HoldsIfHonest-weaker}
use Rattle.plant_view.specs.{edges_of}
use Rattle.plant_answers_genealogy.proofs.RecalledNodesAreListed.{reached_is}
use Rattle.plant_answers_genealogy.proofs.recalls.nodes_reached.Goals as goal

pub returns : goal.returns
returns g c =
    let s = g.V.View.state c.args.view.now in
    let nodes = c.in_ok-nodes.nodes.items in
    HoldsIfHonest-weaker
    (λ (listed : Lists (IsRecalled (g.V.Edges.pairs c.args.view.now) c.args.lot) nodes).
    reached_is (edges_of s) c.args.lot nodes
    (subst (λ (pairs : List (Node × Node)). Lists (IsRecalled pairs c.args.lot) nodes) (g.met.V.View.pairs_of_state c.args.view.now) listed))
    c.in_ok-nodes.ensures.reported
