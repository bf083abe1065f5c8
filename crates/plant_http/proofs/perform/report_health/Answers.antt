use Rattle.std.proofs.Common.{◌∙◌}
use Rattle.plant_http.proofs.ConditionPerforms.{position_performs, position_fails}
use Rattle.plant_http.proofs.perform.report_health.Goals as goal

pub returns-in-Ok-clause-performs : goal.returns-in-Ok-clause-performs
returns-in-Ok-clause-performs g c = λ honest is_live s represented.
    let keeper = g.K.Keeper in
    let now = c.ask_position.new.keeper in
    position_performs (keeper.schema c.args.keeper.now) s c.args.presentation.now c.args.figures.now c.args.silent c.in-Ok.position _ (keeper.represents now) (keeper.shut now) (keeper.crash_states now)
    (λ is_open t represents. g.met.K.Keeper.open_crash_state now t honest is_open represents)
    (c.ask_position.ensures.open ∙ is_live) (rw c.in-Ok.is at (c.ask_position.ensures.tells honest is_live s represented)) c.health_answer.ensures.parts

pub returns-in-Err-clause-performs : goal.returns-in-Err-clause-performs
returns-in-Err-clause-performs g c = λ honest is_live s represented.
    let keeper = g.K.Keeper in
    let now = c.ask_position.new.keeper in
    position_fails (keeper.schema c.args.keeper.now) s c.args.presentation.now c.args.figures.now c.args.silent c.in-Err.fault _ (keeper.represents now) (keeper.shut now) (keeper.crash_states now)
    (λ is_open t represents. g.met.K.Keeper.open_crash_state now t honest is_open represents)
    (c.ask_position.ensures.open ∙ is_live) (rw c.in-Err.is at (c.ask_position.ensures.tells honest is_live s represented)) c.fault_answer.ensures.parts
