use Rattle.std.proofs.Common.{◌∙◌, ap, sym}
use Rattle.std.specs.List.{list_any}
use Rattle.plant_requirements.proofs.KeyTests.{pairs_tie}
use Rattle.plant_requirements.specs.{is_there}
use Rattle.plant_requirements.proofs.stock_keys.is_there.Goals as goal

pub returns-in-Some : goal.returns-in-Some
returns-in-Some c =
    let rows = c.args.sublots.now.rows.now in
    c.has.ensures ∙ ((λ i. list_any (λ s. pairs_tie s.lot c.in-Some.key.0 s.number c.in-Some.key.1 i) rows) ∙ ap (is_there rows) (sym c.in-Some.is))
