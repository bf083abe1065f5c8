use Rattle.desk_server.specs.Exchanges.{made_by}
use Rattle.desk_server.proofs.StepsOfConnections.{goes_keeping, goes_out}
use Rattle.desk_server.proofs.server.Server.advance_at.Goals as goal

pub returns-in-Silent-clause-exchanges : goal.returns-in-Silent-clause-exchanges
returns-in-Silent-clause-exchanges g c = goes_out g.S.Store c.args.self.now.terms (made_by c.read_at.result) (g.T.Transport.traffic c.args.transport.now) (g.T.Transport.traffic c.read_at.new.transport)
    c.args.connections.now.queue.connections.items c.args.index c.remove-connection.result
    c.remove-connection.new.self.connections.items c.read_at.new.connections.queue.connections.items c.args.desk.now c.read_at.new.desk c.requires.within
    c.remove-connection.ensures.value c.remove-connection.ensures.rest c.read_at.ensures.exchanges

pub returns-in-Writing-clause-exchanges : goal.returns-in-Writing-clause-exchanges
returns-in-Writing-clause-exchanges g c = goes_keeping g.S.Store c.args.self.now.terms 0 (g.T.Transport.traffic c.args.transport.now) (g.T.Transport.traffic c.write_at.new.transport)
    c.args.connections.now.queue.connections.items c.args.index c.remove-connection.result
    c.remove-connection.new.self.connections.items c.write_at.new.connections.queue.connections.items c.args.desk.now c.requires.within
    c.remove-connection.ensures.value c.remove-connection.ensures.rest c.write_at.ensures.held

pub returns-in-Ending-clause-exchanges : goal.returns-in-Ending-clause-exchanges
returns-in-Ending-clause-exchanges g c = goes_keeping g.S.Store c.args.self.now.terms 0 (g.T.Transport.traffic c.args.transport.now) (g.T.Transport.traffic c.pass_over_at.new.transport)
    c.args.connections.now.queue.connections.items c.args.index c.remove-connection.result
    c.remove-connection.new.self.connections.items c.pass_over_at.new.connections.queue.connections.items c.args.desk.now c.requires.within
    c.remove-connection.ensures.value c.remove-connection.ensures.rest c.pass_over_at.ensures.held
