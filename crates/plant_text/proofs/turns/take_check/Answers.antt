use Rattle.std.proofs.Common.{◌∙◌}
use Rattle.plant_text.proofs.TurnEnds.{check_ends}
use Rattle.plant_text.proofs.turns.take_check.Goals as goal

pub returns-clause-ends : goal.returns-clause-ends
returns-clause-ends g c = λ honest s represented.
    let keeper = g.K.Keeper in
    let now = c.answer_check.new.keeper in
    check_ends (keeper.schema c.args.keeper.now) s _ _ (keeper.represents now) (keeper.shut now) (keeper.crash_states now) c.args.to_check.now c.answer_check.result c.write_check.result
    (c.answer_check.ensures.checks honest c.requires s represented) (c.answer_check.ensures.open ∙ c.requires) c.write_check.ensures.answered c.write_check.ensures.faulted
