use Rattle.std.proofs.Common.{◌≡◌, Some, None, [], arith, inl, refl, subst}
use Rattle.desk_server.specs.declared.reply.Reply.{Reply}
use Rattle.desk_server.proofs.MadeExchanges.{made_open, nothing_back, one_made, text_back}
use Rattle.desk_server.proofs.ServedRequests.{one_answered, one_served, open_served}
use Rattle.desk_server.proofs.server.Server.reply_to.Goals as goal

pub returns-in_default-clause-serves : goal.returns-in_default-clause-serves
returns-in_default-clause-serves g c = λ honest is_live s represented.
    let keeper = g.K.Keeper in
    let now = c.args.keeper.now in
    open_served c.args.self.now.terms 1 s (keeper.represents now) (keeper.shut now) (keeper.crash_states now) [] is_live (omega arith)
    (represented, g.met.K.Keeper.open_crash_state now s honest is_live represented)

pub returns-in-None-clause-serves : goal.returns-in-None-clause-serves
returns-in-None-clause-serves g c = λ honest is_live s represented.
    let keeper = g.K.Keeper in
    let now = c.serve_one-served.new.keeper in
    let serves = c.serve_one-served.ensures.serves in
    one_served c.args.self.now.terms c.args.now (keeper.schema c.args.keeper.now) s serves.0 (Some c.in-Ok.text.items) (Some c.serve_one-served.new.writer.items)
    (keeper.represents now) (keeper.shut now) (keeper.crash_states now) c.serve_one-served.result
    (λ is_open t represents. g.met.K.Keeper.open_crash_state now t honest is_open represents) (serves.2 honest is_live s represented)

pub returns-in-Some-clause-serves : goal.returns-in-Some-clause-serves
returns-in-Some-clause-serves g c = λ honest is_live s represented.
    let keeper = g.K.Keeper in
    let now = c.serve_one-served.new.keeper in
    let serves = c.serve_one-served.ensures.serves in
    one_served c.args.self.now.terms c.args.now (keeper.schema c.args.keeper.now) s serves.0 (Some c.in-Ok.text.items) (Some c.serve_one-served.new.writer.items)
    (keeper.represents now) (keeper.shut now) (keeper.crash_states now) c.serve_one-served.result
    (λ is_open t represents. g.met.K.Keeper.open_crash_state now t honest is_open represents) (serves.2 honest is_live s represented)

pub returns-in-Some-clause-answers : goal.returns-in-Some-clause-answers
returns-in-Some-clause-answers g c = λ honest is_live s represented.
    let keeper = g.K.Keeper in
    let now = c.serve_one-served.new.keeper in
    let serves = c.serve_one-served.ensures.serves in
    one_answered (record c.args.self.now.terms { now = c.args.now }) (keeper.schema c.args.keeper.now) s c.args.request.now serves.0 c.in-Ok.text.items (Some c.serve_one-served.new.writer.items)
    (keeper.represents now) (keeper.shut now) (keeper.crash_states now) c.serve_one-served.result c.in-Some.status
    serves.1 c.in-Ok.ensures.items
    (subst (λ o. o ≡ Some c.in-Some.status) c.status_of.ensures c.in-Some.is) (serves.2 honest is_live s represented)

pub returns-in_default-clause-makes : goal.returns-in_default-clause-makes
returns-in_default-clause-makes g c = λ n honest is_live s journal lacks made. inl (refl, made)

pub returns-in-None-clause-makes : goal.returns-in-None-clause-makes
returns-in-None-clause-makes g c = λ n honest is_live s journal lacks made.
    let keeper = g.K.Keeper in
    let before = c.args.keeper.now in
    let now = c.serve_one-served.new.keeper in
    let serves = c.serve_one-served.ensures.serves in
    let (t, leads, alone) = made_open c.args.self.now.terms (keeper.schema before) s journal (keeper.represents before) (keeper.shut before) (keeper.crash_states before) is_live made in
    one_made c.args.self.now.terms c.args.now n c.args.request.now serves.0 (keeper.schema before) s t journal c.in-Ok.text.items (Some c.serve_one-served.new.writer.items)
    (keeper.represents now) (keeper.shut now) (keeper.crash_states now) c.serve_one-served.result None
    (λ is_open u represents. g.met.K.Keeper.open_crash_state now u honest is_open represents) serves.1 c.in-Ok.ensures.items
    (nothing_back (Some c.serve_one-served.new.writer.items) c.serve_one-served.result) leads lacks (serves.2 honest is_live t alone.0)

pub returns-in-Some-clause-makes : goal.returns-in-Some-clause-makes
returns-in-Some-clause-makes g c = λ n honest is_live s journal lacks made.
    let keeper = g.K.Keeper in
    let before = c.args.keeper.now in
    let now = c.serve_one-served.new.keeper in
    let serves = c.serve_one-served.ensures.serves in
    let reply : Reply = record { status = c.in-Some.status; text = c.serve_one-served.new.writer } in
    let (t, leads, alone) = made_open c.args.self.now.terms (keeper.schema before) s journal (keeper.represents before) (keeper.shut before) (keeper.crash_states before) is_live made in
    one_made c.args.self.now.terms c.args.now n c.args.request.now serves.0 (keeper.schema before) s t journal c.in-Ok.text.items (Some c.serve_one-served.new.writer.items)
    (keeper.represents now) (keeper.shut now) (keeper.crash_states now) c.serve_one-served.result (Some reply)
    (λ is_open u represents. g.met.K.Keeper.open_crash_state now u honest is_open represents) serves.1 c.in-Ok.ensures.items
    (text_back reply (Some c.serve_one-served.new.writer.items) c.serve_one-served.result
    (subst (λ o. o ≡ Some c.in-Some.status) c.status_of.ensures c.in-Some.is) refl)
    leads lacks (serves.2 honest is_live t alone.0)
