use Rattle.std.proofs.Common.{Some, ◌∷◌, sym, ap, ◌∙◌}
use Rattle.plant_http_requests.specs.{second_part}
use Rattle.plant_http_requests.proofs.PathParts.{texts_of}
use Rattle.plant_http_requests.proofs.path.second_in.Goals as goal

pub returns-in-Some-next : goal.returns-in-Some-next
returns-in-Some-next c =
    let (p, is, key, value) = c.in-Some.ensures.steps in
    let (q, next, key-2, value-2) = c.in-Some-next.ensures.steps in
    let params = c.args.params.now in
    let both = sym c.iter-parts.ensures.value ∙ is ∙ ap (λ rest. p ∷ rest) next in
    let shown = value-2 (texts_of params.pattern.now params.text.now params.path.now params.names.now _ both c.requires).1.0 in
    ap Some shown ∙ sym (ap second_part both)
