use Rattle.std.proofs.Common.{◌∙◌}
use Rattle.plant_http.proofs.ConditionPerforms.{number_fails}
use Rattle.plant_http.proofs.perform.perform_at.Goals as goal

pub returns-in-Err-clause-performs : goal.returns-in-Err-clause-performs
returns-in-Err-clause-performs g c = λ honest is_live s represented.
    let keeper = g.K.Keeper in
    let now = c.ask_seq.new.keeper in
    number_fails (keeper.schema c.args.keeper.now) s c.args.wanted c.in-Err.fault c.args.task.now _ (keeper.represents now) (keeper.shut now) (keeper.crash_states now)
    (λ is_open t represents. g.met.K.Keeper.open_crash_state now t honest is_open represents)
    (c.ask_seq.ensures.open ∙ is_live) (rw c.in-Err.is at (c.ask_seq.ensures.tells honest is_live s represented)) c.fault_answer.ensures.parts
