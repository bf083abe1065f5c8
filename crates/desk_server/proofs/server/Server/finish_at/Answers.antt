use Rattle.std.proofs.Common.{◌∷◌, refl}
use Rattle.desk_server.proofs.MadeExchanges.{keeps_then}
use Rattle.desk_server.proofs.StepsOfConnections.{kept_dropped, kept_removed}
use Rattle.desk_server.proofs.server.Server.finish_at.Goals as goal

pub returns-in-Silent : goal.returns-in-Silent
returns-in-Silent g c = record {
  held = kept_dropped c.args.self.now.terms (g.T.Transport.traffic c.args.transport.now) (g.T.Transport.traffic c.close.new.self) c.args.connections.now.queue.connections.items c.args.index
      c.remove-connection.result c.remove-connection.new.self.connections.items c.close.ensures.same c.requires c.remove-connection.ensures.value c.remove-connection.ensures.rest;
}

pub returns-in-Writing : goal.returns-in-Writing
returns-in-Writing g c =
    let terms = c.args.self.now.terms in
    let before = g.T.Transport.traffic c.args.transport.now in
    let held = c.args.connections.now.queue.connections.items in
    let others = c.remove-connection.new.self.connections.items in record {
      held = keeps_then terms before before (g.T.Transport.traffic c.write_at.new.transport) held (c.remove-connection.result ∷ others) c.write_at.new.connections.queue.connections.items
          (kept_removed terms before before held c.args.index c.remove-connection.result others refl c.requires c.remove-connection.ensures.value c.remove-connection.ensures.rest) c.write_at.ensures.held;
    }

pub returns-in-Ending : goal.returns-in-Ending
returns-in-Ending g c =
    let terms = c.args.self.now.terms in
    let before = g.T.Transport.traffic c.args.transport.now in
    let held = c.args.connections.now.queue.connections.items in
    let others = c.remove-connection.new.self.connections.items in record {
      held = keeps_then terms before before (g.T.Transport.traffic c.pass_over_at.new.transport) held (c.remove-connection.result ∷ others) c.pass_over_at.new.connections.queue.connections.items
          (kept_removed terms before before held c.args.index c.remove-connection.result others refl c.requires c.remove-connection.ensures.value c.remove-connection.ensures.rest) c.pass_over_at.ensures.held;
    }
