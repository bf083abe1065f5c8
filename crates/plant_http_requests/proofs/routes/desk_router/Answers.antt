use Rattle.std.proofs.Common.{◌≡◌, ◌<◌, length, map, subst, arith}
use Rattle.std.specs.Prelude.{fold}
use Rattle.std.proofs.lemmas.List.{drop_more}
use Rattle.plant_http_requests.specs.Routes.{the_routes, with_route}
use Rattle.plant_http_requests.proofs.RouteTableIsInserted.{one_more}
use Rattle.plant_http_requests.proofs.routes.desk_router.Goals as goal

pub loop-path-preserved : goal.loop-path-preserved
loop-path-preserved c =
    let rows = c.routes-path-items.result.now in
    let within : c.loop-path.path-index < length rows = omega arith in
    let before = subst (λ rest. fold with_route c.loop-path.router (map (λ r. (r.0.now, r.1)) rest) ≡ the_routes) (drop_more rows c.loop-path.path-index _ within) c.loop-path.invariant in
    rw (one_more _ _ c.loop-path.router c.insert.new.self _ c.in_ok-insert.ensures) before
