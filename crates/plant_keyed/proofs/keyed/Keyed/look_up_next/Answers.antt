use Rattle.sqlite.specs.Held.{state}
use Rattle.plant_view.specs.{edges_of}
use Rattle.plant_keyed.specs.{abstraction}
use Rattle.plant_keyed.proofs.EdgesAtNode.{next_by}
use Rattle.plant_keyed.proofs.LookupsKeep.{reported_weaker}
use Rattle.plant_keyed.proofs.keyed.Keyed.look_up_next.Goals as goal

pub returns-clause-reported : goal.returns-clause-reported
returns-clause-reported g c =
    let all = edges_of (abstraction (state g.S.Store c.args.self.now.conn.now).now) in
    reported_weaker _ _ _ _ _ _ (λ has. next_by c.args.direction c.args.node all _ _ has (rw (c.as_slice.ensures.value, c.in_ok-nodes.ensures.only) at c.nodes_by.ensures)) c.in_ok-edges.ensures.reported
