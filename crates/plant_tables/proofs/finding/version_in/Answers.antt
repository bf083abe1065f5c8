use Rattle.std.proofs.Common.{◌≡◌, ◌∷◌, []}
use Rattle.std.proofs.lemmas.Option.{IfSome_then}
use Rattle.plant_tables.proofs.OneVersion.{only_one}
use Rattle.plant_tables.proofs.finding.version_in.Goals as goal

pub returns-in-len1-clause-some : goal.returns-in-len1-clause-some
returns-in-len1-clause-some c =
    let alone : c.args.list.now ≡ c.one-item.result ∷ [] = only_one c.args.list.now c.one-item.result c.in-len1.len_at_least c.in-len1.len_below c.one-item.is in
    IfSome_then c.version_of.result c.version_of.ensures.some (λ n reported. (c.one-item.result, alone, reported.0, reported.1))
