use Rattle.std.proofs.Common.{◌≡◌}
use Rattle.desk_server.specs.Exchanges.{StaysHeld}
use Rattle.desk_server.proofs.listening.Connections.ask.Given as goal

abbrev pub invariant-loop : goal.invariant-loop
invariant-loop g l = (g.T.Transport.traffic l.transport ≡ g.T.Transport.traffic l.fn.transport) × StaysHeld l.fn.self.queue.connections.items l.self.queue.connections.items
