use Rattle.std.proofs.Common.{Ok, refl, subst}
use Rattle.desk_server.specs.Traffic.{TakesConnection}
use Rattle.desk_server.proofs.StepsOfConnections.{taken_put, unfollowed}
use Rattle.desk_server.proofs.server.Server.take_next.Goals as goal

pub returns-then-not-follow-clause-held : goal.returns-then-not-follow-clause-held
returns-then-not-follow-clause-held g c =
    let before = g.T.Transport.traffic c.args.transport.now in
    let taken = g.T.Transport.traffic c.take.new.self in
    let now = g.T.Transport.traffic c.close.new.self in
    let followed = c.follow.ensures.same in
    let closed = c.close.ensures.same in
    unfollowed c.args.self.now.terms before taken now c.args.connections.now.queue.connections.items c.in-Some.number
    (subst (λ t. TakesConnection (Ok t) before taken) c.in-Some.is c.in-Ok.ensures.taken) (cc)

pub returns-clause-held : goal.returns-clause-held
returns-clause-held g c =
    let before = g.T.Transport.traffic c.args.transport.now in
    let taken = g.T.Transport.traffic c.take.new.self in
    taken_put c.args.self.now.terms before taken (g.T.Transport.traffic c.follow.new.self) c.args.connections.now.queue.connections.items _ c.in-Some.number c.add.new.self.connections.items
    (subst (λ t. TakesConnection (Ok t) before taken) c.in-Some.is c.in-Ok.ensures.taken) c.follow.ensures.same refl refl c.new.ensures.items c.add.ensures
