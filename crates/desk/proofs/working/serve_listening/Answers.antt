use Rattle.std.proofs.Common.{[], arith}
use Rattle.sqlite.specs.Held.{state}
use Rattle.plant_keeper.proofs.SameDesk.{same_itself}
use Rattle.plant_desk_store.specs.{HasCrashStates, Represents}
use Rattle.desk_server.proofs.ServedRequests.{open_served}
use Rattle.desk.proofs.working.serve_listening.Goals as goal

pub returns-in-Ok-clause-honest : goal.returns-in-Ok-clause-honest
returns-in-Ok-clause-honest g c = c.serve_listener.ensures.same.honest

pub returns-in-Err-clause-serves : goal.returns-in-Err-clause-serves
returns-in-Err-clause-serves g c = λ clean s represented.
    let shown = state g.S.Store c.args.desk.now.connection in
    let shut = c.args.desk.now.is_shut in
    open_served c.args.terms c.args.count s (Represents shown shut) shut (λ states. HasCrashStates shown states) [] c.requires (omega arith)
    (represented, represented.1 c.requires)

pub returns-in-Err-clause-same : goal.returns-in-Err-clause-same
returns-in-Err-clause-same g c = same_itself _ _ _ _
