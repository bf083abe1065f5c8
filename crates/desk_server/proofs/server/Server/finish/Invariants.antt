use Rattle.desk_server.specs.Exchanges.{KeepsHeld}
use Rattle.desk_server.proofs.server.Server.finish.Given as goal

abbrev pub invariant-loop-turn : goal.invariant-loop-turn
invariant-loop-turn g l = KeepsHeld l.self.terms (g.T.Transport.traffic l.fn.transport) l.fn.connections.queue.connections.items (g.T.Transport.traffic l.transport) l.connections.queue.connections.items
