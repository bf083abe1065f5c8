-- The router has the routes of the table, put in one after the other.
use Rattle.std.proofs.Common.{◌≡◌, inl, inr, ℕ, List, Result, Ok, Err}
use Rattle.matchit.specs.Rows.{RowsOf}
use Rattle.matchit.specs.Route.{Scan, parse_route}
use Rattle.matchit.specs.Router.{RouteOf, InsertsRead}
use Rattle.matchit.specs.declared.error.InsertError.{InsertError}
use Rattle.plant_http_requests.specs.Routes.{with_route, with_scan}
use Rattle.plant_http_requests.specs.declared.routes.Route.{Route}

by_scan : (scan : Result Scan InsertError) (value : Route) (old new : RowsOf (RouteOf Route)) (u : Unit {0}) → InsertsRead scan value old new (Ok u) → new ≡ with_scan scan value old
by_scan (Ok s) value old new u inserted = inserted.1
by_scan (Err e) value old new u (same, inl is) = absurd (cc)
by_scan (Err e) value old new u (same, inr is) = absurd (cc)

-- what is inserted is one route more
pub one_more : (path : List ℕ) (value : Route) (old new : RowsOf (RouteOf Route)) (u : Unit {0}) → InsertsRead (parse_route path) value old new (Ok u) → new ≡ with_route old (path, value)
one_more path value old new u inserted = by_scan (parse_route path) value old new u inserted
