-- What the movements of nodes book along the edges between them, edge by edge.
use Rattle.std.specs.Prelude.{◌≡◌, ◌+◌, ◌<◌, ◌^◌, ℕ, Bool, ◌&&◌, if◌then◌else◌, List, [], Option, Some, None, map, min, sum_by, unwrap_or, filter_map, flat_map}
use Rattle.std.specs.List.{list_any}
use Rattle.std.specs.BTreeSet.{BTreeSet, contains}
use Rattle.plant_base.specs.{edge_eq, edge_order, State, EdgeKind, EdgeRow, Movement}
use Rattle.plant_base.specs.declared.rows.EdgeKind.TheVariants as edge
use Rattle.plant_trace.specs.{node_cmp, node_eq, Node}
use Rattle.plant_trace.specs.declared.node.Node.TheVariants as node
use Rattle.plant_view.specs.{edge_row_of, put_all, movements_of}
use Rattle.plant_questions.specs.{movements_into}
use Rattle.plant_answers_genealogy.specs.Genealogy.{is_between, is_among}
use Rattle.plant_questions.specs.{BookedEdge}

-- the node whose movements book an edge: the batch at one of its ends, or else the lot that it leads to
abbrev pub reported_by : EdgeKind → List ℕ → List ℕ → Node
reported_by edge.LotToBatch from to = node.Batch to
reported_by edge.BatchToLot from to = node.Batch from
reported_by edge.LotToLot from to = node.Lot to

abbrev pub reported_at : EdgeRow → Node
reported_at e = reported_by e.kind e.from e.to

-- an amount along an edge between these nodes, where that is reported at this one
abbrev pub booked_if : List Node → Node → ℕ → Option EdgeRow → Option BookedEdge
booked_if nodes at amount None = None
booked_if nodes at amount (Some e) = if node_eq at (reported_at e) && is_between nodes e then Some (record { edge = e; amount = amount }) else None

-- what a movement books
abbrev pub booked_at : List Node → Node → Movement → Option BookedEdge
booked_at nodes at m = booked_if nodes at m.amount (edge_row_of m)

-- the movements of a batch, or those that bring something to a lot from another sublot
abbrev pub movements_at : State → Node → List Movement
movements_at s (node.Lot id) = movements_into s id
movements_at s (node.Batch id) = movements_of s id

-- the set has just these nodes
abbrev pub IsSetOf : List Node → BTreeSet Node → Type 0
IsSetOf nodes set = (y : Node) → contains node_cmp set y ≡ is_among nodes y

-- what all movements book along the edges that lead from one of the nodes to another, reported node by node
abbrev pub bookings_around : List Movement → List Node → List BookedEdge
bookings_around movements nodes = flat_map (λ x. filter_map (booked_at nodes x) movements) nodes

-- ---- sums

abbrev pub counted : EdgeRow → BookedEdge → ℕ
counted e b = if edge_eq b.edge e then b.amount else 0

-- the amounts along an edge in all
abbrev pub total_along : List BookedEdge → EdgeRow → ℕ
total_along bookings e = sum_by (counted e) bookings

-- the sum along each edge fits a 64-bit number
abbrev pub Fits : List BookedEdge → Type 0
Fits bookings = (e : EdgeRow) → total_along bookings e < 2 ^ 64

-- each edge once, in the order of table edge, with the amounts along it in all
abbrev pub summed : List BookedEdge → List BookedEdge
summed bookings = map (λ e. record { edge = e; amount = total_along bookings e }) (put_all edge_order (map (λ b. b.edge) bookings) [])

-- the sum at an edge, where one is booked
abbrev pub is_booked : List BookedEdge → EdgeRow → Bool
is_booked bookings e = list_any (λ b. edge_eq b.edge e) bookings

abbrev pub sum_at : List BookedEdge → EdgeRow → Option ℕ
sum_at bookings e = if is_booked bookings e then Some (total_along bookings e) else None

-- with one amount more, as far as it fits
abbrev pub sum_with : Option ℕ → ℕ → ℕ
sum_with sum amount = min (unwrap_or sum 0 + amount) 18446744073709551615
