use Rattle.std.proofs.Common.{◌∙◌}
use Rattle.plant_http_requests.proofs.OriginScheme.{is_joined}
use Rattle.plant_http_requests.proofs.origins.is_origin_of.Goals as goal

pub returns-in-Some : goal.returns-in-Some
returns-in-Some c =
    let joined = is_joined c.args.scheme.now c.args.host.now c.args.origin.now in
    let (prefix, rest, size) = rw c.in-Some.is at c.strip_prefix.ensures.cases in
    c.eq.ensures ∙ rw (c.in-Some.rest-is, rest) (rw prefix at joined)

pub returns-in-None : goal.returns-in-None
returns-in-None c =
    let joined = is_joined c.args.scheme.now c.args.host.now c.args.origin.now in
    rw c.in-None.ensures.cases at joined
