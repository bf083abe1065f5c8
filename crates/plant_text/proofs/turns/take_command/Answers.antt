use Rattle.std.proofs.Common.{ap, ◌∙◌}
use Rattle.plant_text.specs.{command, with_lf}
use Rattle.plant_text_answers.specs.{reply_text}
use Rattle.plant_text.proofs.TurnEnds.{stops_by_fault, stops_by_write_error, command_faults}
use Rattle.plant_text.proofs.turns.take_command.Goals as goal

pub returns-in-Err-write_line-clause-ends : goal.returns-in-Err-write_line-clause-ends
returns-in-Err-write_line-clause-ends g c = λ honest s represented.
    let k = g.K.Keeper.schema c.args.keeper.now in
    let done = c.in-Ok.ensures.executes honest c.requires s represented in
    stops_by_write_error k s (command c.args.envelope.now) _ _ _ _ _ _ (ap with_lf (c.as_bytes.ensures ∙ c.reply_line.ensures ∙ ap reply_text done.0)) done.1 (c.in-Ok.ensures.open c.requires) c.in-Err-write_line.ensures.err

pub returns-in-Err-clause-ends : goal.returns-in-Err-clause-ends
returns-in-Err-clause-ends g c = λ honest s represented.
    let keeper = g.K.Keeper in
    let now = c.execute.new.self in
    stops_by_fault (keeper.schema c.args.keeper.now) s (command c.args.envelope.now) _ _ (keeper.represents now) (keeper.shut now) (keeper.crash_states now) c.in-Err.fault _ c.write_fault.ensures
    (command_faults s (keeper.represents now) (keeper.crash_states now) (keeper.shut now) c.args.envelope.now c.in-Err.fault (c.in-Err.ensures.executes honest c.requires s represented) (c.in-Err.ensures.open c.requires))
