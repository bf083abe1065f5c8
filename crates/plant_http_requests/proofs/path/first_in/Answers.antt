use Rattle.std.proofs.Common.{Some, sym, ap, ◌∙◌}
use Rattle.plant_http_requests.specs.{first_part}
use Rattle.plant_http_requests.proofs.PathParts.{texts_of}
use Rattle.plant_http_requests.proofs.path.first_in.Goals as goal

pub returns-in-Some : goal.returns-in-Some
returns-in-Some c =
    let (p, is, key, value) = c.in-Some.ensures.steps in
    let params = c.args.params.now in
    let first = sym c.iter-parts.ensures.value ∙ is in
    let shown = value (texts_of params.pattern.now params.text.now params.path.now params.names.now _ first c.requires).0 in
    ap Some shown ∙ sym (ap first_part first)
