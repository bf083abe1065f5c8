use Rattle.std.proofs.lemmas.Result.{IfOk-weaker}
use Rattle.plant_tables.proofs.MissingIndexes.{desk_missing}
use Rattle.plant_tables.proofs.indexing.all_missing.Goals as goal

pub returns : goal.returns
returns c =
    let all = c.all_indexes in
    IfOk-weaker c.missing_among.result _ _ (λ missing is. desk_missing c.args.schema.now all.result.now missing.items is all.ensures.named all.ensures.made) c.missing_among.ensures
