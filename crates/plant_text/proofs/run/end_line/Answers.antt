use Rattle.std.proofs.Common.{[], ◌∷◌}
use Rattle.plant_text.proofs.RepliesConcatenate.{turn_stops}
use Rattle.plant_text.proofs.run.end_line.Goals as goal

pub returns-in-Err-clause-ends : goal.returns-in-Err-clause-ends
returns-in-Err-clause-ends g c = λ honest s represented e.
    turn_stops (g.K.Keeper.schema c.args.keeper.now) s _ (e ∷ []) _ _ _ _ _ c.in-Err.stop (rw (← c.deref.ensures.value, ← c.strip_carriage_return.ensures) (c.in-Err.ensures.ends honest s represented))
