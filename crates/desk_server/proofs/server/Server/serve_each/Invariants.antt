use Rattle.std.proofs.Common.{◌-◌}
use Rattle.desk_server.specs.Exchanges.{GoesOn}
use Rattle.desk_server.proofs.ServedRequests.{IsServing}
use Rattle.desk_server.proofs.server.Server.serve_each.Given as goal

abbrev pub invariant-connections : goal.invariant-connections
invariant-connections g l = IsServing g.S.Store l.self.terms l.count l.left l.initial.desk l.desk
    × GoesOn g.S.Store l.self.terms (l.count - l.left) (g.T.Transport.traffic l.fn.transport) l.fn.connections.queue.connections.items l.fn.desk
    (g.T.Transport.traffic l.transport) l.connections.queue.connections.items l.desk
