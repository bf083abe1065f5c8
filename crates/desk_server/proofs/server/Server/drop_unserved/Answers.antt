use Rattle.desk_server.proofs.MadeExchanges.{keeps_then}
use Rattle.desk_server.proofs.StepsOfConnections.{kept_dropped}
use Rattle.desk_server.proofs.server.Server.drop_unserved.Goals as goal

pub loop-preserved : goal.loop-preserved
loop-preserved g c =
    let terms = c.args.self.now.terms in
    let there = g.T.Transport.traffic c.loop.transport in
    let now = g.T.Transport.traffic c.close.new.self in
    let held = c.loop.connections.queue.connections.items in
    let rest = c.remove-connection.new.self.connections.items in
    keeps_then terms (g.T.Transport.traffic c.args.transport.now) there now c.args.connections.now.queue.connections.items held rest c.loop.invariant
    (kept_dropped terms there now held c.in-Some.index c.remove-connection.result rest c.close.ensures.same c.in-Some.ensures c.remove-connection.ensures.value c.remove-connection.ensures.rest)
