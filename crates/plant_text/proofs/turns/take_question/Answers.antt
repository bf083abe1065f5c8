use Rattle.std.proofs.Common.{◌∙◌}
use Rattle.plant_text.proofs.TurnEnds.{question_ends}
use Rattle.plant_text.proofs.turns.take_question.Goals as goal

pub returns-clause-ends : goal.returns-clause-ends
returns-clause-ends g c = λ honest s represented.
    let keeper = g.K.Keeper in
    let now = c.ask.new.self in
    question_ends (keeper.schema c.args.keeper.now) s _ _ (keeper.represents now) (keeper.shut now) (keeper.crash_states now) c.args.question.now c.ask.result c.write_answer.result
    (c.ask.ensures.asks honest c.requires s represented) (c.ask.ensures.open ∙ c.requires) c.write_answer.ensures.answered c.write_answer.ensures.faulted
