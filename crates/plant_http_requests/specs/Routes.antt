-- The routes of the server, and what a path asks for.
use Rattle.std.specs.Prelude.{ℕ, List, [], ◌∷◌, fold, Option, Some, None, option_map, option_and_then, Result, Ok, Err, if◌then◌else◌}
use Rattle.std.specs.Char.{is_ascii}
use Rattle.std.specs.List.{list_all}
use Rattle.matchit.specs.Rows.{RowsOf}
use Rattle.matchit.specs.Route.{Scan, parse_route}
use Rattle.matchit.specs.Router.{RouteOf, route_from}
use Rattle.matchit.specs.Order.{placed}
use Rattle.matchit.specs.Params.{walk}
use Rattle.matchit.specs.Seek.{first}
use Rattle.matchit.specs.declared.error.InsertError.{InsertError}
use Rattle.plant_json_in.specs.{QuestionKind, question_of_parts}
use Rattle.plant_json_in.specs.declared.question_tables.QuestionKind.TheVariants.{About}
use Rattle.plant_json_in.specs.declared.question_tables.Topic.TheVariants.{Batch}
use Rattle.plant_http_requests.specs.RouteTable.{route_table}
use Rattle.plant_http_requests.specs.declared.routes.BodyFormat.{BodyFormat}
use Rattle.plant_http_requests.specs.declared.routes.BodyFormat.TheVariants.{Json, Record}
use Rattle.plant_http_requests.specs.declared.routes.Route.{Route}
use Rattle.plant_http_requests.specs.declared.routes.Route.TheVariants as route
use Rattle.plant_http_requests.specs.declared.routes.Target.{Target}
use Rattle.plant_http_requests.specs.declared.routes.Target.TheVariants as target

abbrev pub with_scan : Result Scan InsertError → Route → RowsOf (RouteOf Route) → RowsOf (RouteOf Route)
with_scan (Ok scan) value rows = placed ((route_from scan value).pattern, route_from scan value) rows
with_scan (Err error) value rows = rows

-- the rows with a route more, as the router reads its path
abbrev pub with_route : RowsOf (RouteOf Route) → List ℕ × Route → RowsOf (RouteOf Route)
with_route rows entry = with_scan (parse_route entry.0) entry.1 rows

-- all routes
abbrev pub the_routes : RowsOf (RouteOf Route)
the_routes = fold with_route [] route_table

-- what the path has for the first parameter
abbrev pub first_part : List (List ℕ × List ℕ) → Option (List ℕ)
first_part [] = None
first_part (p ∷ rest) = Some p.1

-- what the path has for the second
abbrev pub second_part : List (List ℕ × List ℕ) → Option (List ℕ)
second_part [] = None
second_part (p ∷ rest) = first_part rest

abbrev pub question_with : QuestionKind → BodyFormat → Option (List ℕ) → Option (List ℕ) → Option Target
question_with kind body_format one other = option_map (λ question. target.Question question body_format) (question_of_parts kind one other)

-- what a route makes of two parts of a path
abbrev pub target_with : Route → Option (List ℕ) → Option (List ℕ) → Option Target
target_with (route.Question kind) one other = question_with kind Json one other
target_with route.Record one other = question_with (About Batch) Record one other
target_with (route.Post post) one other = Some (target.Post post)

abbrev pub target_from : Route → List (List ℕ × List ℕ) → Option Target
target_from value parts = target_with value (first_part parts) (second_part parts)

-- what a path asks for by a route
abbrev pub target_by : List ℕ → RouteOf Route → Option Target
target_by path r = target_from r.value (walk r.pattern r.text path r.names 0 0)

-- a path past ASCII has no route
unfoldable pub found_in : RowsOf (RouteOf Route) → List ℕ → Option Target
found_in rows path = if list_all is_ascii path then option_and_then (target_by path) (first rows path) else None

-- what a path asks for
abbrev pub target_of : List ℕ → Option Target
target_of path = found_in the_routes path
