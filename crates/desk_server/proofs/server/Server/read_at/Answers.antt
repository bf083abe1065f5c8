use Rattle.desk_server.specs.Exchanges.{made_by}
use Rattle.desk_server.proofs.MadeExchanges.{made_one}
use Rattle.desk_server.proofs.StepsOfConnections.{goes_lacking, goes_whole}
use Rattle.desk_server.proofs.server.Server.read_at.Goals as goal

pub returns-in-Whole-clause-exchanges : goal.returns-in-Whole-clause-exchanges
returns-in-Whole-clause-exchanges g c = goes_whole g.S.Store c.args.self.now.terms (made_by c.serve_at.result) (g.T.Transport.traffic c.args.transport.now) (g.T.Transport.traffic c.receive.new.transport)
    (g.T.Transport.traffic c.serve_at.new.transport) c.args.connection c.receive.new.connection c.args.connections.now.queue.connections.items c.serve_at.new.connections.queue.connections.items
    c.receive.result c.args.desk.now c.serve_at.new.desk (made_one c.serve_at.result c.serve_at.ensures.one) c.in-Whole.is c.requires.unserved c.receive.ensures.shown
    (c.serve_at.ensures.exchanges c.requires.is_live)

pub returns-in-Lacks-clause-exchanges : goal.returns-in-Lacks-clause-exchanges
returns-in-Lacks-clause-exchanges g c = goes_lacking g.S.Store c.args.self.now.terms 0 (g.T.Transport.traffic c.args.transport.now) (g.T.Transport.traffic c.receive.new.transport) c.args.connection
    c.receive.new.connection c.args.connections.now.queue.connections.items c.add.new.self.connections.items c.args.desk.now c.requires.unserved c.in-Lacks.ensures.shown c.add.ensures
