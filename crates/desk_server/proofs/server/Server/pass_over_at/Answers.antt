use Rattle.std.proofs.Common.{refl}
use Rattle.desk_server.proofs.StepsOfConnections.{passed_closed, passed_put}
use Rattle.desk_server.proofs.server.Server.pass_over_at.Goals as goal

pub returns-in-Bytes : goal.returns-in-Bytes
returns-in-Bytes g c = record {
  held = passed_put c.args.self.now.terms (g.T.Transport.traffic c.args.transport.now) (g.T.Transport.traffic c.pass_over.new.transport) c.args.connection _ c.args.connections.now.queue.connections.items
      c.add.new.self.connections.items _ c.pass_over.ensures c.add.ensures refl refl;
}

pub returns-in-Nothing : goal.returns-in-Nothing
returns-in-Nothing g c = record {
  held = passed_put c.args.self.now.terms (g.T.Transport.traffic c.args.transport.now) (g.T.Transport.traffic c.pass_over.new.transport) c.args.connection _ c.args.connections.now.queue.connections.items
      c.add-in-Nothing.new.self.connections.items c.args.pieces c.pass_over.ensures c.add-in-Nothing.ensures refl c.requires.ending;
}

pub returns-in-Bytes-2 : goal.returns-in-Bytes-2
returns-in-Bytes-2 g c = record {
  held = passed_closed c.args.self.now.terms (g.T.Transport.traffic c.args.transport.now) (g.T.Transport.traffic c.pass_over.new.transport) (g.T.Transport.traffic c.close.new.self) c.args.connection
      c.args.connections.now.queue.connections.items c.pass_over.ensures c.close.ensures.same;
}
