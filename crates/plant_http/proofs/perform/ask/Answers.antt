use Rattle.std.proofs.Common.{◌∙◌}
use Rattle.plant_http.proofs.TaskPerforms.{question_performs}
use Rattle.plant_http.proofs.perform.ask.Goals as goal

pub returns-clause-performs : goal.returns-clause-performs
returns-clause-performs g c = λ honest is_live s represented.
    let keeper = g.K.Keeper in
    let now = c.ask-asked.new.self in
    question_performs (keeper.schema c.args.keeper.now) s c.args.question.now c.args.body_format c.args.silent c.ask-asked.result _ (keeper.represents now) (keeper.shut now) (keeper.crash_states now)
    (λ is_open t represents. g.met.K.Keeper.open_crash_state now t honest is_open represents)
    (c.ask-asked.ensures.open ∙ is_live) (c.ask-asked.ensures.asks honest is_live s represented) c.reported_answer.ensures.reported
