use Rattle.std.proofs.Common.{subst}
use Rattle.plant_trace.specs.{Direction}
use Rattle.plant_view.specs.{edges_of}
use Rattle.plant_keyed.specs.{AreTurned}
use Rattle.plant_keyed.proofs.CachedEdges.{next_turned}
use Rattle.plant_keyed.proofs.edges.recalled.Goals as goal

pub returns-in_ok-nodes-clause-next : goal.returns-in_ok-nodes-clause-next
returns-in_ok-nodes-clause-next c s true_of =
    let all = c.args.edges.now in
    let seen = c.are_seen in
    let are = subst (λ (d : Direction). AreTurned d (edges_of s) all.links.items) (seen.ensures.way c.if-are_seen.true) (true_of (seen.ensures.read c.if-are_seen.true)) in
    next_turned c.args.direction (edges_of s) all.links.items c.args.node.now _ are c.in_ok-nodes.ensures
