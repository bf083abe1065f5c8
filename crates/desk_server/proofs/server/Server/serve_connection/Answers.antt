use Rattle.std.proofs.Common.{subst}
use Rattle.desk_server.specs.Exchanges.{MakesOne}
use Rattle.desk_server.proofs.server.Server.serve_connection.Goals as goal

pub returns-in-Some-clause-makes : goal.returns-in-Some-clause-makes
returns-in-Some-clause-makes g c = λ honest is_live s journal lacks made.
    let keeper = g.K.Keeper in
    let now = c.reply_to.new.keeper in
    let was = c.args.connection.now in
    subst (λ r. MakesOne c.args.self.now.terms was.now was.number was.request.items (keeper.schema c.args.keeper.now) s journal (keeper.represents now) (keeper.shut now) (keeper.crash_states now) r)
    c.in-Some.is (rw c.as_slice.ensures.value at c.reply_to.ensures.makes was.number honest is_live s journal lacks made)

pub returns-in-None-clause-makes : goal.returns-in-None-clause-makes
returns-in-None-clause-makes g c = λ honest is_live s journal lacks made.
    let keeper = g.K.Keeper in
    let now = c.reply_to.new.keeper in
    let was = c.args.connection.now in
    subst (λ r. MakesOne c.args.self.now.terms was.now was.number was.request.items (keeper.schema c.args.keeper.now) s journal (keeper.represents now) (keeper.shut now) (keeper.crash_states now) r)
    c.in-None.is (rw c.as_slice.ensures.value at c.reply_to.ensures.makes was.number honest is_live s journal lacks made)
