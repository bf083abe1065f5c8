use Rattle.desk_server.proofs.StepsOfConnections.{read_passes}
use Rattle.desk_server.proofs.connection.Connection.pass_over.Goals as goal

pub returns : goal.returns
returns g c = read_passes c.read.result c.args.self.now.number c.read.new.piece (g.T.Transport.traffic c.args.transport.now) (g.T.Transport.traffic c.read.new.self) c.read.ensures.received
