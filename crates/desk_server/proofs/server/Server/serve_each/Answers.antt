use Rattle.std.proofs.Common.{ℕ, ◌-◌, ◌≤◌, arith, rules, subst}
use Rattle.sqlite.specs.Held.{state}
use Rattle.sqlite.specs.State.{HasCleanDisk}
use Rattle.desk_server.specs.Exchanges.{GoesOn, made_by}
use Rattle.desk_server.proofs.MadeExchanges.{goes_fewer, goes_step, goes_then, keeps_itself, kept_on, made_few}
use Rattle.desk_server.proofs.ServedRequests.{IsServing, desk_fewer, serving_at_most, serving_fewer, serving_one, serving_step}
use Rattle.desk_server.proofs.server.Server.serve_each.Goals as goal
use Rattle.desk_server.proofs.server.Server.serve_each.Goals.{in-Advance+in_ok-done-in-Advance, in-Drop, in-Take+in_ok-done-in-Take, in-Wait}

pub connections-preserved : goal.connections-preserved
connections-preserved g c =
    let it = c.connections in
    let last = c.match-step in
    let terms = c.args.self.now.terms in
    let count = c.args.count in
    let some = c.if-left-eq0.false in
    let there = g.T.Transport.traffic it.transport in
    let held = c.next-step.new.self.queue.connections.items in
    let idle = λ (n : ℕ). serving_fewer g.S.Store terms count it.left n c.args.desk.now it.desk it.invariant.0 in
    let step : GoesOn g.S.Store terms last.done there held it.desk (g.T.Transport.traffic last.transport) last.connections.queue.connections.items last.desk = elim c.match-step.branch [
      | in-Advance+in_ok-done-in-Advance w ↦ rw w.transport-is (rw w.connections-is (rw w.desk-is (rw w.done-is w.in_ok-done-in-Advance.ensures.exchanges)))
      | in-Drop w ↦ rw w.transport-is (rw w.connections-is (rw w.desk-is (rw w.done-is (kept_on g.S.Store terms w.drop_at-done.result there (g.T.Transport.traffic w.drop_at-done.new.transport) held
          w.drop_at-done.new.connections.queue.connections.items it.desk w.drop_at-done.ensures.held))))
      | in-Take+in_ok-done-in-Take w ↦ rw w.transport-is (rw w.connections-is (rw w.desk-is (rw w.done-is (kept_on g.S.Store terms w.in_ok-done-in-Take.done there (g.T.Transport.traffic w.take_next.new.transport) held
          w.take_next.new.connections.queue.connections.items it.desk w.in_ok-done-in-Take.ensures.held))))
      | in-Wait w ↦ rw w.transport-is (rw w.connections-is (rw w.desk-is (rw w.done-is (kept_on g.S.Store terms 0 there there held held it.desk (keeps_itself terms there held)))))
    ] in
    let after : IsServing g.S.Store terms count (it.left - last.done) c.args.desk.now last.desk = elim c.match-step.branch [
      | in-Advance+in_ok-done-in-Advance w ↦ let one = w.in_ok-done-in-Advance.ensures in
          rw w.desk-is (rw w.done-is (serving_step g.S.Store terms count it.left w.in_ok-done-in-Advance.done c.args.desk.now it.desk w.advance_at.new.desk
          it.invariant.0 (omega (arith, some)) one.same one.serves one.open one.few one.unasked))
      | in-Drop w ↦ rw w.desk-is (rw w.done-is (idle w.drop_at-done.result (omega (arith, some, w.drop_at-done.ensures.few))))
      | in-Take+in_ok-done-in-Take w ↦ rw w.desk-is (rw w.done-is (idle w.in_ok-done-in-Take.done (omega (arith, some, w.in_ok-done-in-Take.ensures.few))))
      | in-Wait w ↦ rw w.desk-is (rw w.done-is (idle 0 (omega arith)))
    ] in
    let few : last.done ≤ it.left = elim c.match-step.branch [
      | in-Advance+in_ok-done-in-Advance w ↦ rw w.done-is (omega (arith, some, w.in_ok-done-in-Advance.ensures.few))
      | in-Drop w ↦ rw w.done-is (omega (arith, some, w.drop_at-done.ensures.few))
      | in-Take+in_ok-done-in-Take w ↦ rw w.done-is (omega (arith, some, w.in_ok-done-in-Take.ensures.few))
      | in-Wait w ↦ rw w.done-is (omega arith)
    ] in
    let was : HasCleanDisk (state g.S.Store last.desk.connection) → HasCleanDisk (state g.S.Store it.desk.connection) = elim c.match-step.branch [
      | in-Advance+in_ok-done-in-Advance w ↦ rw w.desk-is w.in_ok-done-in-Advance.ensures.same.honest
      | in-Drop w ↦ rw w.desk-is (λ clean. clean)
      | in-Take+in_ok-done-in-Take w ↦ rw w.desk-is (λ clean. clean)
      | in-Wait w ↦ rw w.desk-is (λ clean. clean)
    ] in (
      after,
      goes_step g.S.Store terms count it.left last.done (g.T.Transport.traffic c.args.transport.now) there (g.T.Transport.traffic last.transport) (g.T.Transport.traffic c.ask_after.new.transport) c.args.connections.now.queue.connections.items
          it.connections.queue.connections.items held last.connections.queue.connections.items c.ask_after.new.self.queue.connections.items c.args.desk.now it.desk last.desk few it.invariant.0.2 was it.invariant.1
          (λ i. (c.next-step.ensures.unchanged i).connections.items) step c.ask_after.ensures.shown c.ask_after.ensures.held,
    )

pub returns-clause-serves : goal.returns-clause-serves
returns-clause-serves g c = serving_at_most g.S.Store c.args.self.now.terms c.args.count c.connections.left c.args.desk.now c.connections.desk c.connections.invariant.0

pub returns-in_err-done-in-Advance : goal.returns-in_err-done-in-Advance
returns-in_err-done-in-Advance g c =
    let it = c.connections in
    let one = serving_one g.S.Store c.args.self.now.terms c.args.count it.left c.args.desk.now it.desk c.advance_at.new.desk it.invariant.0
    (omega (arith, c.if-left-eq0.false)) c.advance_at.ensures.same c.advance_at.ensures.serves in record {
      same = one.0;
      serves = desk_fewer g.S.Store c.args.self.now.terms (c.args.count - (it.left - 1)) c.args.count c.args.desk.now c.advance_at.new.desk (omega arith) one.1;
      exchanges = goes_then g.S.Store c.args.self.now.terms (c.args.count - it.left) (made_by c.advance_at.result) c.args.count (g.T.Transport.traffic c.args.transport.now) (g.T.Transport.traffic it.transport)
          (g.T.Transport.traffic c.advance_at.new.transport) c.args.connections.now.queue.connections.items it.connections.queue.connections.items c.advance_at.new.connections.queue.connections.items
          c.args.desk.now it.desk c.advance_at.new.desk (omega (arith, c.if-left-eq0.false, it.invariant.0.2, made_few c.advance_at.result c.advance_at.ensures.few)) c.advance_at.ensures.same.honest it.invariant.1
          (subst (λ q. GoesOn g.S.Store c.args.self.now.terms (made_by c.advance_at.result) (g.T.Transport.traffic it.transport) q it.desk (g.T.Transport.traffic c.advance_at.new.transport)
          c.advance_at.new.connections.queue.connections.items c.advance_at.new.desk) (λ i. (c.next-step.ensures.unchanged i).connections.items) c.advance_at.ensures.exchanges);
      ends = search rules;
      routed = search rules;
    }

pub returns-in_err-done-in-Take-clause-serves : goal.returns-in_err-done-in-Take-clause-serves
returns-in_err-done-in-Take-clause-serves g c =
    serving_at_most g.S.Store c.args.self.now.terms c.args.count c.connections.left c.args.desk.now c.connections.desk c.connections.invariant.0

pub returns-in_err-ask_after : goal.returns-in_err-ask_after
returns-in_err-ask_after g c =
    let it = c.connections in
    let last = c.match-step in
    let terms = c.args.self.now.terms in
    let count = c.args.count in
    let some = c.if-left-eq0.false in
    let there = g.T.Transport.traffic it.transport in
    let held = c.next-step.new.self.queue.connections.items in
    let idle = λ (n : ℕ). serving_fewer g.S.Store terms count it.left n c.args.desk.now it.desk it.invariant.0 in
    let step : GoesOn g.S.Store terms last.done there held it.desk (g.T.Transport.traffic last.transport) last.connections.queue.connections.items last.desk = elim c.match-step.branch [
      | in-Advance+in_ok-done-in-Advance w ↦ rw w.transport-is (rw w.connections-is (rw w.desk-is (rw w.done-is w.in_ok-done-in-Advance.ensures.exchanges)))
      | in-Drop w ↦ rw w.transport-is (rw w.connections-is (rw w.desk-is (rw w.done-is (kept_on g.S.Store terms w.drop_at-done.result there (g.T.Transport.traffic w.drop_at-done.new.transport) held
          w.drop_at-done.new.connections.queue.connections.items it.desk w.drop_at-done.ensures.held))))
      | in-Take+in_ok-done-in-Take w ↦ rw w.transport-is (rw w.connections-is (rw w.desk-is (rw w.done-is (kept_on g.S.Store terms w.in_ok-done-in-Take.done there (g.T.Transport.traffic w.take_next.new.transport) held
          w.take_next.new.connections.queue.connections.items it.desk w.in_ok-done-in-Take.ensures.held))))
      | in-Wait w ↦ rw w.transport-is (rw w.connections-is (rw w.desk-is (rw w.done-is (kept_on g.S.Store terms 0 there there held held it.desk (keeps_itself terms there held)))))
    ] in
    let after : IsServing g.S.Store terms count (it.left - last.done) c.args.desk.now last.desk = elim c.match-step.branch [
      | in-Advance+in_ok-done-in-Advance w ↦ let one = w.in_ok-done-in-Advance.ensures in
          rw w.desk-is (rw w.done-is (serving_step g.S.Store terms count it.left w.in_ok-done-in-Advance.done c.args.desk.now it.desk w.advance_at.new.desk
          it.invariant.0 (omega (arith, some)) one.same one.serves one.open one.few one.unasked))
      | in-Drop w ↦ rw w.desk-is (rw w.done-is (idle w.drop_at-done.result (omega (arith, some, w.drop_at-done.ensures.few))))
      | in-Take+in_ok-done-in-Take w ↦ rw w.desk-is (rw w.done-is (idle w.in_ok-done-in-Take.done (omega (arith, some, w.in_ok-done-in-Take.ensures.few))))
      | in-Wait w ↦ rw w.desk-is (rw w.done-is (idle 0 (omega arith)))
    ] in
    let few : last.done ≤ it.left = elim c.match-step.branch [
      | in-Advance+in_ok-done-in-Advance w ↦ rw w.done-is (omega (arith, some, w.in_ok-done-in-Advance.ensures.few))
      | in-Drop w ↦ rw w.done-is (omega (arith, some, w.drop_at-done.ensures.few))
      | in-Take+in_ok-done-in-Take w ↦ rw w.done-is (omega (arith, some, w.in_ok-done-in-Take.ensures.few))
      | in-Wait w ↦ rw w.done-is (omega arith)
    ] in
    let was : HasCleanDisk (state g.S.Store last.desk.connection) → HasCleanDisk (state g.S.Store it.desk.connection) = elim c.match-step.branch [
      | in-Advance+in_ok-done-in-Advance w ↦ rw w.desk-is w.in_ok-done-in-Advance.ensures.same.honest
      | in-Drop w ↦ rw w.desk-is (λ clean. clean)
      | in-Take+in_ok-done-in-Take w ↦ rw w.desk-is (λ clean. clean)
      | in-Wait w ↦ rw w.desk-is (λ clean. clean)
    ] in
    record {
      same = after.0;
      serves = serving_at_most g.S.Store terms count (it.left - last.done) c.args.desk.now last.desk after;
      exchanges = goes_fewer g.S.Store terms (count - (it.left - last.done)) count (g.T.Transport.traffic c.args.transport.now) (g.T.Transport.traffic c.ask_after.new.transport) c.args.connections.now.queue.connections.items
          c.ask_after.new.self.queue.connections.items c.args.desk.now last.desk (omega arith) (goes_step g.S.Store terms count it.left last.done (g.T.Transport.traffic c.args.transport.now) there (g.T.Transport.traffic last.transport) (g.T.Transport.traffic c.ask_after.new.transport) c.args.connections.now.queue.connections.items
          it.connections.queue.connections.items held last.connections.queue.connections.items c.ask_after.new.self.queue.connections.items c.args.desk.now it.desk last.desk few it.invariant.0.2 was it.invariant.1
          (λ i. (c.next-step.ensures.unchanged i).connections.items) step c.ask_after.ensures.shown c.ask_after.ensures.held);
      ends = search (rules, after.1);
      routed = search rules;
    }
