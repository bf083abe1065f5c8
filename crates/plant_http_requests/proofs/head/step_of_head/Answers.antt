use Rattle.std.proofs.Common.{◌≡◌, false, Some, nat_lt, rules, refl, ◌∙◌}
use Rattle.plant_http_requests.specs.{field_lines}
use Rattle.plant_http_requests.proofs.head.step_of_head.Goals as goal

pub returns : goal.returns
returns c =
    let (within, h, at) = c.in-Some.ensures.found in
    let few : nat_lt 32 (field_lines c.args.head.now) ≡ false = search rules in
    rw few (Some h, (at.reads, at.room), c.request_step.ensures ∙ rw (at.method, at.path, at.version, at.fields_are) refl)
