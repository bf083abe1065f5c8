use Rattle.plant_http.proofs.TaskPerforms.{command_performs}
use Rattle.plant_http.proofs.perform.execute.Goals as goal

pub returns-clause-performs : goal.returns-clause-performs
returns-clause-performs g c = λ honest is_live s represented.
    let keeper = g.K.Keeper in
    let now = c.execute-executed.new.self in
    command_performs (keeper.schema c.args.keeper.now) s c.args.envelope.now c.execute-executed.result _ (keeper.represents now) (keeper.shut now) (keeper.crash_states now)
    (λ is_open t represents. g.met.K.Keeper.open_crash_state now t honest is_open represents)
    (c.execute-executed.ensures.open is_live) (c.execute-executed.ensures.executes honest is_live s represented) c.executed_answer.ensures
