use Rattle.std.proofs.lemmas.Result.{IfErr-weaker}
use Rattle.plant_text.proofs.KnownBytes.{prefix_first, prefix_second}
use Rattle.plant_text.proofs.writes.write_each.Goals as goal

pub returns-in-Err-clause-err : goal.returns-in-Err-clause-err
returns-in-Err-clause-err g c = prefix_first _ _ _ c.args.second.now c.in-Err.ensures.err

pub returns-in-Ok-clause-err : goal.returns-in-Ok-clause-err
returns-in-Ok-clause-err g c = IfErr-weaker c.write_text-in-Ok.result _ _ (λ _ h. prefix_second _ _ _ _ c.args.second.now c.in-Ok.ensures.ok h) c.write_text-in-Ok.ensures.err
