-- The edges between nodes are just those that movements make, with what they book.
use Rattle.std.proofs.Common.{◌≡◌, true, List, [], filter, refl, sym, subst, ⊎_elim, Contains, filter_map}
use Rattle.std.specs.List.Sorted.{IsStrictlySortedBy}
use Rattle.std.proofs.lemmas.List.Folds.{Any-from_list_any, list_any-from_Any}
use Rattle.std.proofs.lemmas.List.Kept.{IsStrictlySortedBy-filter}
use Rattle.plant_base.specs.{edge_order, edge_total, State, EdgeRow}
use Rattle.plant_base.proofs.EdgeIsItsKey.{one_edge}
use Rattle.plant_trace.specs.{node_eq, Direction, Node}
use Rattle.plant_trace.proofs.LeadsIsReach.{none_in}
use Rattle.plant_trace.proofs.NodeOrder.{node_eq_exact, node_eq_itself}
use Rattle.plant_view.specs.{edge_row_of, edge_rows, ends_of}
use Rattle.plant_view.proofs.Membership.{all_in, filter_in, filter_from, map_in, map_from, map_sorted, put_all_from, sorted_put_all}
use Rattle.plant_answers_genealogy.specs.{nodes_around, booked_edge, edges_between, is_among, is_between}
use Rattle.plant_answers.specs.{IsBooked, booked_order}
use Rattle.plant_questions.specs.{BookedEdge}
use Rattle.plant_answers_genealogy.proofs.GoodsAreReached.{around_lists}
use Rattle.plant_answers_genealogy.proofs.FilterKeepsOrder.{picked_in, picked_from}
use Rattle.std.proofs.lemmas.Bool.{and_parts, and_from}

pub among_in : (nodes : List Node) (y : Node) → is_among nodes y ≡ true → Contains nodes y
among_in nodes y h =
    let any = Any-from_list_any (λ (x : Node). node_eq x y) nodes h in
    subst (Contains nodes) (node_eq_exact any.1 y any.4) (any.0, any.2, any.3)

pub in_among : (nodes : List Node) (y : Node) → Contains nodes y → is_among nodes y ≡ true
in_among nodes y c = list_any-from_Any (λ (x : Node). node_eq x y) nodes (c.0, y, c.1, c.2, node_eq_itself y y refl)

module _ (s : State) (direction : Direction) (start : Node) where
  abbrev nodes : List Node
  nodes = nodes_around s direction start

  abbrev rows : List EdgeRow
  rows = edge_rows s.movements

  pub edges_sorted : IsStrictlySortedBy booked_order (edges_between s.movements nodes)
  unfolding IsStrictlySortedBy
  edges_sorted = map_sorted edge_order booked_order (booked_edge s.movements) (λ a b less. less) (filter (is_between nodes) rows)
      (IsStrictlySortedBy-filter edge_order (is_between nodes) rows (sorted_put_all edge_order edge_total (filter_map edge_row_of s.movements) [] tt))

  booked_by : (b : BookedEdge) (e : EdgeRow) → booked_edge s.movements e ≡ b → Contains rows e → is_between nodes e ≡ true → IsBooked s direction start b
  booked_by b e is listed between =
      let ends = and_parts (is_among nodes (ends_of e).0) (is_among nodes (ends_of e).1) between in
      let of_movement = picked_from edge_row_of s.movements e (⊎_elim (λ i. i) (λ n. absurd (none_in e n)) (put_all_from edge_order edge_total (filter_map edge_row_of s.movements) e [] listed)) in
      let here : IsBooked s direction start (booked_edge s.movements e) = record {
        made = of_movement;
        first = (around_lists s direction start).only (ends_of e).0 (among_in nodes (ends_of e).0 ends.0);
        second = (around_lists s direction start).only (ends_of e).1 (among_in nodes (ends_of e).1 ends.1);
        amount = refl;
      } in
      subst (IsBooked s direction start) is here

  pub edges_only : (b : BookedEdge) → Contains (edges_between s.movements nodes) b → IsBooked s direction start b
  edges_only b h =
      let from = map_from (booked_edge s.movements) (filter (is_between nodes) rows) b h in
      let kept = filter_from (is_between nodes) rows from.0 from.1.0 in
      booked_by b from.0 from.1.1 kept.0 kept.1

  pub edges_all : (b : BookedEdge) → IsBooked s direction start b → Contains (edges_between s.movements nodes) b
  edges_all b r =
      let e = b.edge in
      let listed : Contains rows e = all_in edge_order edge_total one_edge (filter_map edge_row_of s.movements) e [] (picked_in edge_row_of s.movements r.made.0 e r.made.1.0 r.made.1.1) in
      let first = in_among nodes (ends_of e).0 ((around_lists s direction start).all (ends_of e).0 r.first) in
      let second = in_among nodes (ends_of e).1 ((around_lists s direction start).all (ends_of e).1 r.second) in
      let is : booked_edge s.movements e ≡ b = λ i. record b { amount = sym r.amount i } in
      subst (Contains (edges_between s.movements nodes)) is
      (map_in (booked_edge s.movements) (filter (is_between nodes) rows) e (filter_in (is_between nodes) rows e listed (and_from _ _ first second)))
