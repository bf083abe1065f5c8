-- What is booked node by node is what all movements book along the edges between the nodes.
use Rattle.std.proofs.Common.{◌≡◌, ◌∙◌, ℕ, ◌+◌, ◌<◌, ◌^◌, Bool, true, false, cond, List, [], ◌∷◌, map, filter, Option, Some, None, refl, sym, subst, ap, arith, ⊎_elim, Contains, ◌&&◌, ◌||◌, sum_by, filter_map, flat_map, Less}
use Rattle.std.specs.List.{AllByRecursion, cons_option}
use Rattle.std.specs.List.Sorted.{IsStrictlySortedBy}
use Rattle.std.proofs.lemmas.Bool.{false≢true, and_parts, and_right, and_from}
use Rattle.std.proofs.lemmas.Cmp.{tied_itself}
use Rattle.std.proofs.lemmas.List.Folds.{Any-from_list_any}
use Rattle.std.proofs.lemmas.List.Kept.{IsStrictlySortedBy-filter}
use Rattle.std.proofs.lemmas.List.Sums.{sum_by-cons, sum_by-append}
use Rattle.plant_base.specs.{edge_eq, edge_order, edge_total, State, same, EdgeKind, EdgeRow, Movement, MovementKind}
use Rattle.plant_base.specs.declared.rows.EdgeKind.TheVariants as edge
use Rattle.plant_base.specs.declared.rows.MovementKind.TheVariants.{Consumed, Produced, Split, Merged}
use Rattle.plant_base.proofs.EdgeIsItsKey.{one_edge}
use Rattle.plant_view.proofs.ListLemmas.{same_itself, map_alike, all_of, filtered_passes}
use Rattle.plant_trace.specs.{node_cmp, node_eq, node_total, Node}
use Rattle.plant_trace.specs.declared.node.Node.TheVariants as node
use Rattle.plant_trace.proofs.LeadsIsReach.{none_in}
use Rattle.plant_trace.proofs.NodeOrder.{node_eq_exact}
use Rattle.plant_view.specs.{batch_by, edge_row_by, edge_row_of, edge_rows, ends_by, put_all, is_named, movements_of}
use Rattle.plant_view.proofs.Membership.{all_in, filter_in, filter_from, flat_in, flat_from, map_in, map_from, one_list, put_all_from, sorted_put_all}
use Rattle.plant_questions.specs.{movements_into, other_lot}
use Rattle.plant_answers_genealogy.specs.{Fits, booked_at, booked_if, bookings_around, counted, movements_at, summed, reported_at, reported_by, total_along, amount_of, booked_along, booked_edge, edges_between, is_among, is_between, is_made}
use Rattle.plant_questions.specs.{BookedEdge}
use Rattle.plant_answers_genealogy.proofs.SumsByEdge.{edge_exact, booked_pair, totalled}
use Rattle.plant_answers_genealogy.proofs.BatchMovementsSuffice.{reported_of}
use Rattle.plant_answers_genealogy.proofs.FilterKeepsOrder.{picked_in, picked_from}

-- ---- sums

chosen_zero : (b : Bool) → let z : ℕ = 0 in cond b z z ≡ z
chosen_zero true = refl
chosen_zero false = refl

abbrev reported : (BookedEdge → ℕ) → Option BookedEdge → ℕ
reported g None = 0
reported g (Some b) = g b

one_reported : (g : BookedEdge → ℕ) (o : Option BookedEdge) (bs : List BookedEdge) → sum_by g (cons_option o bs) ≡ reported g o + sum_by g bs
one_reported g None bs = omega arith
one_reported g (Some b) bs = sum_by-cons g b bs

all_reported : (g : BookedEdge → ℕ) (f : Movement → Option BookedEdge) (ms : List Movement) → sum_by g (filter_map f ms) ≡ sum_by (λ m. reported g (f m)) ms
all_reported g f [] = refl
all_reported g f (m ∷ ms) = one_reported g (f m) (filter_map f ms) ∙ ap (λ (n : ℕ). reported g (f m) + n) (all_reported g f ms) ∙ sym (sum_by-cons (λ (x : Movement). reported g (f x)) m ms)

sum_zero : (ms : List Movement) → sum_by (λ (m : Movement). 0) ms ≡ 0
sum_zero [] = refl
sum_zero (m ∷ ms) = omega (arith, sum_by-cons (λ (x : Movement). 0) m ms, sum_zero ms)

chosen_sum : (c : Bool) (h : Movement → ℕ) (ms : List Movement) → sum_by (λ m. cond c (h m) 0) ms ≡ cond c (sum_by h ms) 0
chosen_sum true h ms = refl
chosen_sum false h ms = sum_zero ms

-- ---- one node

-- the edge is between the nodes, and is reported at x
abbrev is_reported : List Node → Node → EdgeRow → Bool
is_reported nodes x e = node_eq x (reported_at e) && is_between nodes e

module _ (nodes : List Node) (x : Node) (e : EdgeRow) where
  by_edge : (a : ℕ) (o : Option EdgeRow) → reported (counted e) (booked_if nodes x a o) ≡ cond (is_reported nodes x e) (cond (is_made e o) a 0) 0
  by_edge a None = sym (chosen_zero (is_reported nodes x e))
  by_edge a (Some y) = counted_if (is_reported nodes x y) ∙ moved (edge_eq y e) refl
    where
      counted_if : (c : Bool) → reported (counted e) (cond c (Some (record { edge = y; amount = a })) None) ≡ cond c (cond (edge_eq y e) a 0) 0
      counted_if true = refl
      counted_if false = refl

      moved : (t : Bool) → edge_eq y e ≡ t → cond (is_reported nodes x y) (cond (edge_eq y e) a 0) 0 ≡ cond (is_reported nodes x e) (cond (edge_eq y e) a 0) 0
      moved true is = ap (λ (z : EdgeRow). cond (is_reported nodes x z) (cond (edge_eq y e) a 0) 0) (edge_exact y e is)
      moved false is =
          let none : cond (edge_eq y e) a 0 ≡ 0 = ap (λ (t : Bool). cond t a 0) is in
          ap (λ (n : ℕ). cond (is_reported nodes x y) n 0) none
          ∙ chosen_zero (is_reported nodes x y) ∙ sym (ap (λ (n : ℕ). cond (is_reported nodes x e) n 0) none ∙ chosen_zero (is_reported nodes x e))

  part : (ms : List Movement) → total_along (filter_map (booked_at nodes x) ms) e ≡ cond (is_reported nodes x e) (amount_of ms e) 0
  part ms = all_reported (counted e) (booked_at nodes x) ms ∙ (λ i. sum_by (λ (m : Movement). by_edge m.amount (edge_row_of m) i) ms) ∙ chosen_sum (is_reported nodes x e) (booked_along e) ms

-- ---- all nodes

-- the node at which an edge between the nodes is reported is one of them
pub reporter_among : (nodes : List Node) (e : EdgeRow) → is_between nodes e ≡ true → is_among nodes (reported_at e) ≡ true
reporter_among nodes e h = by e.kind (and_parts _ _ h).0 (and_parts _ _ h).1
  where
    by : (k : EdgeKind) → is_among nodes (ends_by k e.from e.to).0 ≡ true → is_among nodes (ends_by k e.from e.to).1 ≡ true → is_among nodes (reported_by k e.from e.to) ≡ true
    by edge.LotToBatch near far = far
    by edge.BatchToLot near far = near
    by edge.LotToLot near far = far

reporter_between : (nodes : List Node) (e : EdgeRow) → (is_among nodes (reported_at e) && is_between nodes e) ≡ is_between nodes e
reporter_between nodes e = by (is_between nodes e) refl
  where
    by : (t : Bool) → is_between nodes e ≡ t → (is_among nodes (reported_at e) && t) ≡ t
    by true is = ap (λ (b : Bool). b && true) (reporter_among nodes e is)
    by false is = and_right (is_among nodes (reported_at e)) false refl

-- a node isn't among those that are greater
none_later : (x y : Node) → x ≡ y → (xs : List Node) → AllByRecursion (λ z. node_cmp x z ≡ Less) xs → is_among xs y ≡ false
none_later x y is [] a = refl
none_later x y is (z ∷ zs) a = by (node_eq z y) refl (none_later x y is zs a.1)
  where
    by : (t : Bool) → node_eq z y ≡ t → is_among zs y ≡ false → (t || is_among zs y) ≡ false
    by true e rest = absurd (let tie = subst (λ (w : Node). node_cmp x w ≡ Less) (node_eq_exact z y e ∙ sym is) a.0 in let itself = tied_itself node_total x in cc)
    by false e rest = rest

module _ (ms : List Movement) (nodes : List Node) (e : EdgeRow) where
  abbrev reporter : Node
  reporter = reported_at e

  abbrev between : Bool
  between = is_between nodes e

  added : (t am : Bool) (n : ℕ) → (t ≡ true → am ≡ false) → cond (t && between) n 0 + cond (am && between) n 0 ≡ cond ((t || am) && between) n 0
  added true am n none =
      let gone : cond (am && between) n 0 ≡ 0 = ap (λ (b : Bool). cond (b && between) n 0) (none refl) in
      omega (arith, gone)
  added false am n none = omega arith

  along : (xs : List Node) → IsStrictlySortedBy node_cmp xs → total_along (flat_map (λ x. filter_map (booked_at nodes x) ms) xs) e ≡ cond (is_among xs reporter && between) (amount_of ms e) 0
  unfolding IsStrictlySortedBy
  along [] sorted = refl
  along (x ∷ xs) sorted =
      sum_by-append (counted e) (filter_map (booked_at nodes x) ms) (flat_map (λ x. filter_map (booked_at nodes x) ms) xs)
      ∙ (λ i. part nodes x e ms i + along xs sorted.1 i)
      ∙ added (node_eq x reporter) (is_among xs reporter) (amount_of ms e) (λ is. none_later x reporter (node_eq_exact x reporter is) xs sorted.0)

  total_between : IsStrictlySortedBy node_cmp nodes → total_along (bookings_around ms nodes) e ≡ cond (is_between nodes e) (amount_of ms e) 0
  total_between sorted = along nodes sorted ∙ ap (λ (t : Bool). cond t (amount_of ms e) 0) (reporter_between nodes e)

-- ---- which edges

booked_is : (nodes : List Node) (x : Node) (a : ℕ) (o : Option EdgeRow) (b : BookedEdge) → booked_if nodes x a o ≡ Some b → (o ≡ Some b.edge) × (is_reported nodes x b.edge ≡ true)
booked_is nodes x a None b h = absurd (cc)
booked_is nodes x a (Some y) b h = by (is_reported nodes x y) refl h
  where
    by : (t : Bool) → is_reported nodes x y ≡ t → cond t (Some (record { edge = y; amount = a })) None ≡ Some b → (Some y ≡ Some b.edge) × (is_reported nodes x b.edge ≡ true)
    by true e h =
        let r : BookedEdge = record { edge = y; amount = a } in
        let is : r ≡ b = cc in
        let edge : y ≡ b.edge = ap (λ (z : BookedEdge). z.edge) is in
        (ap Some edge, subst (λ (z : EdgeRow). is_reported nodes x z ≡ true) edge e)
    by false e h = absurd (cc)

module _ (ms : List Movement) (nodes : List Node) where
  abbrev bookings : List BookedEdge
  bookings = bookings_around ms nodes

  abbrev edge_at : BookedEdge → EdgeRow
  edge_at b = b.edge

  down : (z : EdgeRow) → Contains (map edge_at bookings) z → Contains (filter (is_between nodes) (edge_rows ms)) z
  down z h =
      let of_booking = map_from edge_at bookings z h in
      let b = of_booking.0 in
      let of_node = flat_from (λ x. filter_map (booked_at nodes x) ms) nodes b of_booking.1.0 in
      let x = of_node.0 in
      let of_movement = picked_from (booked_at nodes x) ms b of_node.1.1 in
      let m = of_movement.0 in
      let is = booked_is nodes x m.amount (edge_row_of m) b of_movement.1.1 in
      let reported = and_parts (node_eq x (reported_at b.edge)) (is_between nodes b.edge) is.1 in
      let listed : Contains (edge_rows ms) b.edge = all_in edge_order edge_total one_edge (filter_map edge_row_of ms) b.edge [] (picked_in edge_row_of ms m b.edge of_movement.1.0 is.0) in
      subst (Contains (filter (is_between nodes) (edge_rows ms))) of_booking.1.1 (filter_in (is_between nodes) (edge_rows ms) b.edge listed reported.1)

  up : (z : EdgeRow) → Contains (filter (is_between nodes) (edge_rows ms)) z → Contains (map edge_at bookings) z
  up z h =
      let of_filter = filter_from (is_between nodes) (edge_rows ms) z h in
      let of_rows = ⊎_elim (λ i. i) (λ n. absurd (none_in z n)) (put_all_from edge_order edge_total (filter_map edge_row_of ms) z [] of_filter.0) in
      let of_movement = picked_from edge_row_of ms z of_rows in
      let m = of_movement.0 in
      let any = Any-from_list_any (λ y. node_eq y (reported_at z)) nodes (reporter_among nodes z of_filter.1) in
      let x = any.1 in
      let b : BookedEdge = record { edge = z; amount = m.amount } in
      let made : booked_at nodes x m ≡ Some b = ap (booked_if nodes x m.amount) of_movement.1.1 ∙ ap (λ (t : Bool). cond t (Some b) None) (and_from _ _ any.4 of_filter.1) in
      map_in edge_at bookings b (flat_in (λ y. filter_map (booked_at nodes y) ms) nodes x b (any.0, any.2, any.3) (picked_in (booked_at nodes x) ms m b of_movement.1.0 made))

  same_edges : put_all edge_order (map edge_at bookings) [] ≡ filter (is_between nodes) (edge_rows ms)
  unfolding IsStrictlySortedBy
  same_edges = one_list edge_order edge_total one_edge (put_all edge_order (map edge_at bookings) []) (filter (is_between nodes) (edge_rows ms))
      (sorted_put_all edge_order edge_total (map edge_at bookings) [] tt)
      (IsStrictlySortedBy-filter edge_order (is_between nodes) (edge_rows ms) (sorted_put_all edge_order edge_total (filter_map edge_row_of ms) [] tt))
      (λ z h. down z (⊎_elim (λ i. i) (λ n. absurd (none_in z n)) (put_all_from edge_order edge_total (map edge_at bookings) z [] h)))
      (λ z h. all_in edge_order edge_total one_edge (map edge_at bookings) z [] (up z h))

  -- the sums are the edges between the nodes
  pub summed_between : IsStrictlySortedBy node_cmp nodes → summed bookings ≡ edges_between ms nodes
  summed_between sorted =
      let between = filter (is_between nodes) (edge_rows ms) in
      ap (map (totalled bookings)) same_edges
      ∙ map_alike (totalled bookings) (booked_edge ms) (λ (e : EdgeRow). is_between nodes e ≡ true) between
      (filtered_passes (is_between nodes) (edge_rows ms))
      (all_of (λ (e : EdgeRow). is_between nodes e ≡ true → totalled bookings e ≡ booked_edge ms e) (λ e is. ap (λ (n : ℕ). booked_pair (e, n)) (total_between ms nodes e sorted ∙ ap (λ (t : Bool). cond t (amount_of ms e) 0) is)) between)

  -- and they fit where the amounts along each edge do
  pub between_fits : IsStrictlySortedBy node_cmp nodes → ((e : EdgeRow) → amount_of ms e < 2 ^ 64) → Fits bookings
  between_fits sorted fits e = subst (λ (n : ℕ). n < 2 ^ 64) (sym (total_between ms nodes e sorted)) (by (is_between nodes e))
    where
      by : (t : Bool) → cond t (amount_of ms e) 0 < 2 ^ 64
      by true = fits e
      by false = omega arith

-- ---- movements that book edges, reported at a node

abbrev name_in : Node → List ℕ
name_in (node.Lot id) = id
name_in (node.Batch id) = id

apart : (a b : Node) → same (name_in b) (name_in a) ≡ false → node_eq a b ≡ false
apart a b e = by (node_eq a b) refl
  where
    by : (t : Bool) → node_eq a b ≡ t → t ≡ false
    by true is = absurd (false≢true (sym e ∙ ap (λ (z : Node). same (name_in z) (name_in a)) (sym (node_eq_exact a b is)) ∙ same_itself (name_in a)))
    by false is = refl

unbooked : (c d : Bool) (b : BookedEdge) → c ≡ false → cond (c && d) (Some b) None ≡ None
unbooked c d b e = ap (λ (t : Bool). cond (t && d) (Some b) None) e

module _ (nodes : List Node) (id lot : List ℕ) (a : ℕ) where
  not_at_lot : (k : MovementKind) → is_named id (other_lot k lot) ≡ false → booked_if nodes (node.Lot id) a (edge_row_by k lot) ≡ None
  not_at_lot (Split to) e = unbooked _ _ _ (apart (node.Lot id) (node.Lot to) e)
  not_at_lot (Merged to) e = unbooked _ _ _ (apart (node.Lot id) (node.Lot to) e)
  not_at_lot _ e = refl

  not_at_batch : (k : MovementKind) → is_named id (batch_by k) ≡ false → booked_if nodes (node.Batch id) a (edge_row_by k lot) ≡ None
  not_at_batch (Consumed b) e = unbooked _ _ _ (apart (node.Batch id) (node.Batch b) e)
  not_at_batch (Produced b) e = unbooked _ _ _ (apart (node.Batch id) (node.Batch b) e)
  not_at_batch _ e = refl

lot_booked : (s : State) (nodes : List Node) (id : List ℕ) → filter_map (booked_at nodes (node.Lot id)) (movements_into s id) ≡ filter_map (booked_at nodes (node.Lot id)) s.movements
lot_booked s nodes id = reported_of (booked_at nodes (node.Lot id)) (λ m. is_named id (other_lot m.kind m.lot)) (λ m e. not_at_lot nodes id m.lot m.amount m.kind e) s.movements

batch_booked : (s : State) (nodes : List Node) (id : List ℕ) → filter_map (booked_at nodes (node.Batch id)) (movements_of s id) ≡ filter_map (booked_at nodes (node.Batch id)) s.movements
batch_booked s nodes id = reported_of (booked_at nodes (node.Batch id)) (λ m. is_named id (batch_by m.kind)) (λ m e. not_at_batch nodes id m.lot m.amount m.kind e) s.movements

-- a node's movements book all that is reported there
pub all_booked : (s : State) (nodes : List Node) (x : Node) → filter_map (booked_at nodes x) (movements_at s x) ≡ filter_map (booked_at nodes x) s.movements
all_booked s nodes (node.Lot id) = lot_booked s nodes id
all_booked s nodes (node.Batch id) = batch_booked s nodes id
