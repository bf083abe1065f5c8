use Rattle.desk_server.specs.Exchanges.{reply_of}
use Rattle.desk_server.proofs.StepsOfConnections.{goes_answering, goes_unanswered, reply_now}
use Rattle.desk_server.proofs.server.Server.serve_at.Goals as goal
use Rattle.desk_server.proofs.server.Server.serve_at.Goals.{in-Writing, in_default}

pub returns-then-is_shut-clause-exchanges : goal.returns-then-is_shut-clause-exchanges
returns-then-is_shut-clause-exchanges g c = λ is_live.
    let terms = c.args.self.now.terms in
    let before = g.T.Transport.traffic c.args.transport.now in
    let others = c.args.connections.now.queue.connections.items in
    let served = c.serve_connection-is_answered in
    let d = served.new.connection in
    elim c.match-connection.branch [
      | in-Writing w ↦ rw w.transport-is (rw w.connections-is (goes_answering g.S.Store terms before (g.T.Transport.traffic w.write_at.new.transport) c.args.connection d others w.write_at.new.connections.queue.connections.items
          w.in-Writing.status c.args.desk.now served.new.keeper
          (λ clean s journal lacks made. rw (reply_now served.result d w.in-Writing.status w.if-is_answered.true w.in-Writing.is) at served.ensures.makes clean is_live s journal lacks made)
          served.ensures.number w.in-Writing.is (served.ensures.begins w.if-is_answered.true).1 w.write_at.ensures.held))
      | in_default w ↦ rw w.transport-is (rw w.connections-is (goes_unanswered g.S.Store terms before (g.T.Transport.traffic w.drop_connection.new.transport) c.args.connection others (reply_of served.result d)
          c.args.desk.now served.new.keeper (λ clean s journal lacks made. served.ensures.makes clean is_live s journal lacks made) w.drop_connection.ensures))
    ]

pub returns-clause-exchanges : goal.returns-clause-exchanges
returns-clause-exchanges g c = λ is_live.
    let terms = c.args.self.now.terms in
    let before = g.T.Transport.traffic c.args.transport.now in
    let others = c.args.connections.now.queue.connections.items in
    let served = c.serve_connection-is_answered in
    let d = served.new.connection in
    elim c.match-connection.branch [
      | in-Writing w ↦ rw w.transport-is (rw w.connections-is (goes_answering g.S.Store terms before (g.T.Transport.traffic w.write_at.new.transport) c.args.connection d others w.write_at.new.connections.queue.connections.items
          w.in-Writing.status c.args.desk.now served.new.keeper
          (λ clean s journal lacks made. rw (reply_now served.result d w.in-Writing.status w.if-is_answered.true w.in-Writing.is) at served.ensures.makes clean is_live s journal lacks made)
          served.ensures.number w.in-Writing.is (served.ensures.begins w.if-is_answered.true).1 w.write_at.ensures.held))
      | in_default w ↦ rw w.transport-is (rw w.connections-is (goes_unanswered g.S.Store terms before (g.T.Transport.traffic w.drop_connection.new.transport) c.args.connection others (reply_of served.result d)
          c.args.desk.now served.new.keeper (λ clean s journal lacks made. served.ensures.makes clean is_live s journal lacks made) w.drop_connection.ensures))
    ]
