use Rattle.std.proofs.Common.{refl}
use Rattle.desk_server.proofs.StepsOfConnections.{kept_ended}
use Rattle.desk_server.proofs.server.Server.end_answer.Goals as goal

pub returns-then-end : goal.returns-then-end
returns-then-end g c = record {
  held = kept_ended c.args.self.now.terms (g.T.Transport.traffic c.args.transport.now) (g.T.Transport.traffic c.end.new.self) c.args.connection _ c.args.connections.now.queue.connections.items
      c.add.new.self.connections.items 0 c.end.ensures.same c.add.ensures refl refl;
}
