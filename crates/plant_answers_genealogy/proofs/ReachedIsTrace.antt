-- A list of the nodes that a start reaches is the trace.
use Rattle.std.proofs.Common.{◌≡◌, true, List, [], map, filter, Contains}
use Rattle.std.specs.List.Sorted.{IsStrictlySortedBy}
use Rattle.std.proofs.lemmas.List.Elements.{Contains-append_left, Contains-append_right, All-contains, All-from_recursion, recursion_from_All, filter_passes}
use Rattle.plant_trace.specs.{node_cmp, node_total, IsReached, Lists, Direction, Node}
use Rattle.plant_trace.specs.declared.direction.Direction.TheVariants.{Forward, Back}
use Rattle.plant_trace.proofs.AddingKeepsAcyclic.{first_edge, last_edge}
use Rattle.plant_trace.proofs.LeadsIsReach.{leads_where_reached}
use Rattle.plant_trace.proofs.SortedNodes.{Lists-unique}
use Rattle.plant_trace.proofs.NodeOrder.{node_exact}
use Rattle.plant_view.proofs.MappedContains.{mapped_in, filtered_in, come}
use Rattle.plant_view.proofs.ListLemmas.{sorted_put_all, all_put_all}
use Rattle.plant_answers_genealogy.specs.{is_reached, ends, trace_along}

-- ---- what is reached

module _ (pairs : List (Node × Node)) (start y : Node) where
  -- it is an end
  reached_ends : (direction : Direction) → IsReached direction pairs start y → Contains (ends pairs) y
  reached_ends Forward r = let e = last_edge r in Contains-append_right (map (λ (p : Node × Node). p.0) pairs) (map (λ (p : Node × Node). p.1) pairs) y (mapped_in (λ (p : Node × Node). p.1) pairs (e.0, y) e.1)
  reached_ends Back r = let e = first_edge r in Contains-append_left (map (λ (p : Node × Node). p.0) pairs) (map (λ (p : Node × Node). p.1) pairs) y (mapped_in (λ (p : Node × Node). p.0) pairs (y, e.0) e.1)

  reached_from : (direction : Direction) → is_reached direction pairs start y ≡ true → IsReached direction pairs start y
  reached_from Forward e = (leads_where_reached pairs start y).0 e
  reached_from Back e = (leads_where_reached pairs y start).0 e

  reached_test : (direction : Direction) → IsReached direction pairs start y → is_reached direction pairs start y ≡ true
  reached_test Forward r = (leads_where_reached pairs start y).1 r
  reached_test Back r = (leads_where_reached pairs y start).1 r

module _ (pairs : List (Node × Node)) (direction : Direction) (start : Node) where
  abbrev Passes : Node → Type 0
  Passes y = is_reached direction pairs start y ≡ true

  abbrev found : List Node
  found = filter (is_reached direction pairs start) (ends pairs)

  pub trace_lists : Lists (IsReached direction pairs start) (trace_along pairs direction start)
  unfolding IsStrictlySortedBy
  trace_lists = record {
    ascending = sorted_put_all node_cmp node_total found [] tt;
    only = λ y h.
        let passes = recursion_from_All Passes found (filter_passes (is_reached direction pairs start) (ends pairs)) in
        let listed = All-from_recursion Passes (trace_along pairs direction start) (all_put_all node_cmp node_total Passes found [] passes tt) in
        reached_from pairs start y direction (All-contains Passes (trace_along pairs direction start) y listed h);
    all = λ y r. come node_cmp node_exact found [] y
        (filtered_in (is_reached direction pairs start) (ends pairs) y (reached_test pairs start y direction r) (reached_ends pairs start y direction r));
  }

  -- there is one such list
  pub trace_is : (nodes : List Node) → Lists (IsReached direction pairs start) nodes → nodes ≡ trace_along pairs direction start
  trace_is nodes lists = Lists-unique (IsReached direction pairs start) nodes (trace_along pairs direction start) lists trace_lists
