use Rattle.std.proofs.Common.{◌≡◌, drop, map}
use Rattle.std.specs.Prelude.{fold}
use Rattle.plant_http_requests.specs.Routes.{the_routes, with_route}
use Rattle.plant_http_requests.proofs.routes.desk_router.Given as goal

abbrev pub invariant-loop-path : goal.invariant-loop-path
invariant-loop-path l = fold with_route l.router (map (λ r. (r.0.now, r.1)) (drop l.path-index l.path-items)) ≡ the_routes
