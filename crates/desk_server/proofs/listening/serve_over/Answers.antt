use Rattle.std.proofs.Common.{[], arith, subst}
use Rattle.desk_server.specs.Exchanges.{GoesOn}
use Rattle.desk_server.proofs.MadeExchanges.{goes_then, kept_on, served_over, unserved_over}
use Rattle.desk_server.proofs.listening.serve_over.Goals as goal

pub returns-clause-exchanges : goal.returns-clause-exchanges
returns-clause-exchanges g c =
    let before = g.T.Transport.traffic c.args.transport.now in
    let served = c.serve_each-end.new in
    let mid = g.T.Transport.traffic served.transport in
    let now = g.T.Transport.traffic c.finish.new.transport in
    let held = served.connections.queue.connections.items in
    let kept = c.finish.new.connections.queue.connections.items in
    let first = subst (λ items. GoesOn g.S.Store c.args.terms c.args.count before items c.args.desk.now mid held served.desk) c.in-Ok.ensures c.serve_each-end.ensures.exchanges in
    served_over g.S.Store c.args.terms c.args.count before now kept c.args.desk.now served.desk c.requires c.serve_each-end.ensures.same.honest
    (goes_then g.S.Store c.args.terms c.args.count 0 c.args.count before mid now [] held kept c.args.desk.now served.desk served.desk (omega arith) (λ clean. clean) first
    (kept_on g.S.Store c.args.terms 0 mid now held kept served.desk c.finish.ensures.held))

pub returns-in_err-routes-clause-exchanges : goal.returns-in_err-routes-clause-exchanges
returns-in_err-routes-clause-exchanges g c = unserved_over g.S.Store c.args.terms c.args.count (g.T.Transport.traffic c.args.transport.now) c.args.desk.now c.requires

pub returns-in_default-clause-exchanges : goal.returns-in_default-clause-exchanges
returns-in_default-clause-exchanges g c = unserved_over g.S.Store c.args.terms c.args.count (g.T.Transport.traffic c.args.transport.now) c.args.desk.now c.requires
