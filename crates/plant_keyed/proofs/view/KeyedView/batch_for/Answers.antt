use Rattle.std.proofs.Common.{◌∙◌, refl, [], ◌∷◌, ap, sym, rules, option_map}
use Rattle.plant_base.specs.{BatchRow}
use Rattle.plant_keyed.proofs.LookupFinds.{batch_of_is}
use Rattle.plant_keyed.proofs.LookupTexts.{batch_by_job}
use Rattle.plant_keyed.proofs.LookupsReport.{valid_reported}
use Rattle.plant_keyed.proofs.view.KeyedView.batch_for.Goals as goal

pub first_found-requires : goal.first_found-requires
first_found-requires g c = (2 ∷ [], batch_by_job)

pub returns-in-Some : goal.returns-in-Some
returns-in-Some g c = valid_reported g.S.Store c.first_found.ensures.same_reference c.first_found.ensures.frame c.first_found.ensures.cached (λ clean valid holds.
    let found = rw c.id.ensures at (c.in_ok-row.ensures.row (2 ∷ []) batch_by_job (refl, rw c.id.ensures refl) clean) in
    ap (option_map (λ (r : BatchRow). r.batch)) (sym c.in-Some.is) ∙ batch_of_is _ _ valid holds c.args.order _ found)

pub returns-in-None : goal.returns-in-None
returns-in-None g c = valid_reported g.S.Store c.first_found.ensures.same_reference c.first_found.ensures.frame c.first_found.ensures.cached (λ clean valid holds.
    let found = rw c.id.ensures at (c.in_ok-row.ensures.row (2 ∷ []) batch_by_job (refl, rw c.id.ensures refl) clean) in
    ap (option_map (λ (r : BatchRow). r.batch)) (sym c.in-None.is) ∙ batch_of_is _ _ valid holds c.args.order _ found)

pub returns-in_err-row : goal.returns-in_err-row
returns-in_err-row g c = valid_reported g.S.Store c.first_found.ensures.same_reference c.first_found.ensures.frame c.first_found.ensures.cached (λ clean valid holds. search rules)
