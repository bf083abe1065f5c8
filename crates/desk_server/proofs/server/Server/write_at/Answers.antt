use Rattle.std.proofs.Common.{◌∷◌, refl}
use Rattle.desk_server.proofs.MadeExchanges.{keeps_then}
use Rattle.desk_server.proofs.StepsOfConnections.{handed_kept, kept_closed, kept_put}
use Rattle.desk_server.proofs.server.Server.write_at.Goals as goal

pub returns-then-connection-len : goal.returns-then-connection-len
returns-then-connection-len g c =
    let terms = c.args.self.now.terms in
    let before = g.T.Transport.traffic c.args.transport.now in
    let handed = g.T.Transport.traffic c.hand_over.new.transport in
    let others = c.args.connections.now.queue.connections.items in
    let kept = handed_kept terms before handed c.args.connection c.hand_over.new.self others c.in-Some.sent c.requires.writing c.in-Some.ensures.shown c.in-Some.ensures.number c.in-Some.ensures.stage
    (λ i. (c.in-Some.ensures.unchanged i).items) (λ i. (c.in-Some.ensures.received i).items) in
    let now = g.T.Transport.traffic c.end_answer.new.transport in
    let after = c.end_answer.new.connections.queue.connections.items in record {
      held = keeps_then terms before handed now (c.args.connection ∷ others) (c.hand_over.new.self ∷ others) after kept c.end_answer.ensures.held;
    }

pub returns-then-sent-gt0 : goal.returns-then-sent-gt0
returns-then-sent-gt0 g c =
    let terms = c.args.self.now.terms in
    let before = g.T.Transport.traffic c.args.transport.now in
    let handed = g.T.Transport.traffic c.hand_over.new.transport in
    let others = c.args.connections.now.queue.connections.items in
    let kept = handed_kept terms before handed c.args.connection c.hand_over.new.self others c.in-Some.sent c.requires.writing c.in-Some.ensures.shown c.in-Some.ensures.number c.in-Some.ensures.stage
    (λ i. (c.in-Some.ensures.unchanged i).items) (λ i. (c.in-Some.ensures.received i).items) in
    let after = c.add.new.self.connections.items in record {
      held = keeps_then terms before handed handed (c.args.connection ∷ others) (c.hand_over.new.self ∷ others) after kept
          (kept_put terms handed handed c.hand_over.new.self _ others after refl c.add.ensures refl refl refl refl refl);
    }

pub returns-then-await_room : goal.returns-then-await_room
returns-then-await_room g c =
    let terms = c.args.self.now.terms in
    let before = g.T.Transport.traffic c.args.transport.now in
    let handed = g.T.Transport.traffic c.hand_over.new.transport in
    let others = c.args.connections.now.queue.connections.items in
    let kept = handed_kept terms before handed c.args.connection c.hand_over.new.self others c.in-Some.sent c.requires.writing c.in-Some.ensures.shown c.in-Some.ensures.number c.in-Some.ensures.stage
    (λ i. (c.in-Some.ensures.unchanged i).items) (λ i. (c.in-Some.ensures.received i).items) in
    let now = g.T.Transport.traffic c.await_room.new.self in
    let after = c.add-then-await_room.new.self.connections.items in record {
      held = keeps_then terms before handed now (c.args.connection ∷ others) (c.hand_over.new.self ∷ others) after kept
          (kept_put terms handed now c.hand_over.new.self _ others after c.await_room.ensures.same c.add-then-await_room.ensures refl refl refl refl refl);
    }

pub returns-else-await_room : goal.returns-else-await_room
returns-else-await_room g c =
    let terms = c.args.self.now.terms in
    let before = g.T.Transport.traffic c.args.transport.now in
    let handed = g.T.Transport.traffic c.hand_over.new.transport in
    let others = c.args.connections.now.queue.connections.items in
    let kept = handed_kept terms before handed c.args.connection c.hand_over.new.self others c.in-Some.sent c.requires.writing c.in-Some.ensures.shown c.in-Some.ensures.number c.in-Some.ensures.stage
    (λ i. (c.in-Some.ensures.unchanged i).items) (λ i. (c.in-Some.ensures.received i).items) in
    let now = g.T.Transport.traffic c.drop_connection-else-await_room.new.transport in
    let awaited = c.await_room.ensures.same in
    let dropped = c.drop_connection-else-await_room.ensures in record {
      held = keeps_then terms before handed now (c.args.connection ∷ others) (c.hand_over.new.self ∷ others) others kept
          (kept_closed terms handed now c.hand_over.new.self others (cc));
    }
