use Rattle.desk_server.proofs.StepsOfConnections.{kept_dropped}
use Rattle.desk_server.proofs.server.Server.drop_at.Goals as goal

pub returns-then-is_served-clause-held : goal.returns-then-is_served-clause-held
returns-then-is_served-clause-held g c = kept_dropped c.args.self.now.terms (g.T.Transport.traffic c.args.transport.now) (g.T.Transport.traffic c.drop_connection.new.transport) c.args.connections.now.queue.connections.items c.args.index
    c.remove-connection.result c.remove-connection.new.self.connections.items c.drop_connection.ensures c.requires c.remove-connection.ensures.value c.remove-connection.ensures.rest

pub returns-clause-held : goal.returns-clause-held
returns-clause-held g c = kept_dropped c.args.self.now.terms (g.T.Transport.traffic c.args.transport.now) (g.T.Transport.traffic c.drop_connection.new.transport) c.args.connections.now.queue.connections.items c.args.index
    c.remove-connection.result c.remove-connection.new.self.connections.items c.drop_connection.ensures c.requires c.remove-connection.ensures.value c.remove-connection.ensures.rest
