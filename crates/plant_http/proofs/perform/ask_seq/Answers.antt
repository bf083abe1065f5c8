use Rattle.plant_http.proofs.ConditionPerforms.{answer_tells}
use Rattle.plant_http.proofs.perform.ask_seq.Goals as goal

pub returns-in-Ok-clause-tells : goal.returns-in-Ok-clause-tells
returns-in-Ok-clause-tells g c = λ honest is_live s represented.
    let keeper = g.K.Keeper in
    let now = c.ask.new.self in
    let asks = rw c.in-Ok.is at (c.ask.ensures.asks honest is_live s represented) in
    rw c.seq_in_answer.ensures (answer_tells (keeper.schema c.args.keeper.now) s (keeper.represents now) c.in-Ok.answer asks)
