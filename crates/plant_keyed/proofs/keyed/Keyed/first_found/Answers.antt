use Rattle.std.proofs.Common.{◌∙◌, IfSome, ap, slice_get, subst, sym}
use Rattle.plant_keyed.specs.{IsDecoded}
use Rattle.plant_keyed.proofs.FirstDecoded.{first_decoded}
use Rattle.plant_keyed.proofs.keyed.Keyed.first_found.Goals as goal

pub returns-clause-decoded : goal.returns-clause-decoded
returns-clause-decoded g c =
    let decoded = c.in_ok-rows.ensures.decoded in
    let first = c.copied.ensures ∙ c.first.ensures.value ∙ ap (λ l. slice_get l 0) c.as_slice.ensures.value in
    subst (λ row. IfSome row (IsDecoded g.R.Decoded.row_from)) (sym first) (first_decoded g.R.Decoded.row_from decoded.0 _ decoded.1)
