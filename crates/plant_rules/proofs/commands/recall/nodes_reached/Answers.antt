use Rattle.std.proofs.Common.{List, subst}
use Rattle.plant_trace.specs.{Lists, IsRecalled, Node}
use Rattle.plant_trace.proofs.HoldsIfHonest.{HoldsIfHonest-weaker}
use Rattle.plant_rules.proofs.commands.recall.nodes_reached.Goals as goal

pub returns-in-Ok : goal.returns-in-Ok
returns-in-Ok g c =
    HoldsIfHonest-weaker
    (λ (listed : Lists (IsRecalled (g.V.Edges.pairs c.args.view.now) c.args.lot) c.in-Ok.nodes.items). λ wanted. subst (λ (pairs : List (Node × Node)). Lists (IsRecalled pairs c.args.lot) c.in-Ok.nodes.items) (g.met.V.View.pairs_of_state c.args.view.now) listed)
    (rw c.in-Ok.is at c.reached.ensures.reported)
