use Rattle.desk_server.specs.Exchanges.{KeepsHeld}
use Rattle.desk_server.proofs.server.Server.drop_unserved.Given as goal

abbrev pub invariant-loop : goal.invariant-loop
invariant-loop g l = KeepsHeld l.self.terms (g.T.Transport.traffic l.fn.transport) l.fn.connections.queue.connections.items (g.T.Transport.traffic l.transport) l.connections.queue.connections.items
