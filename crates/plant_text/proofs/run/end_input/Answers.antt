use Rattle.std.proofs.Common.{[]}
use Rattle.plant_text.specs.{entry_of}
use Rattle.plant_text.proofs.RepliesConcatenate.{turn_stops}
use Rattle.plant_text.proofs.RunEnds.{last_stopped}
use Rattle.plant_text.proofs.run.end_input.Goals as goal

pub returns-in-Err-clause-ends : goal.returns-in-Err-clause-ends
returns-in-Err-clause-ends g c = λ honest s represented.
    let keeper = g.K.Keeper in
    let k = keeper.schema c.args.keeper.now in
    let now = c.take_line.new.keeper in
    let e = entry_of c.args.held.now in
    rw c.end_of.ensures (last_stopped k s e _ _ (keeper.represents now) (keeper.shut now) (keeper.crash_states now) c.args.refused c.in-Err.stop (turn_stops k s e [] _ _ _ _ _ c.in-Err.stop (c.in-Err.ensures.ends honest s represented)))
