use Rattle.std.proofs.Common.{◌∙◌}
use Rattle.plant_http.proofs.TaskPerforms.{check_performs, check_shut}
use Rattle.plant_http.proofs.perform.check.Goals as goal

pub returns-clause-performs : goal.returns-clause-performs
returns-clause-performs g c = λ honest is_live s represented.
    let keeper = g.K.Keeper in
    let now = c.answer_check-checked.new.keeper in
    check_performs (keeper.schema c.args.keeper.now) s c.args.to_check.now c.answer_check-checked.result _ (keeper.represents now) (keeper.shut now) (keeper.crash_states now)
    (λ is_open t represents. g.met.K.Keeper.open_crash_state now t honest is_open represents)
    (c.answer_check-checked.ensures.open ∙ is_live) (c.answer_check-checked.ensures.checks honest is_live s represented) c.checked_answer.ensures.reported

pub returns-clause-shut : goal.returns-clause-shut
returns-clause-shut g c = λ is_shut. check_shut c.args.to_check.now c.answer_check-checked.result _ (c.answer_check-checked.ensures.shut is_shut) c.checked_answer.ensures.reported
