-- The rows of edges that lookups find are the edges at a node.
use Rattle.std.proofs.Common.{◌≡◌, ◌∙◌, ℕ, Bool, true, List, [], ◌∷◌, ◌++◌, map, filter, option_map, Option, Some, None, Contains, refl, sym, ap, subst, inl, inr, ◌==◌, filter_map, eq-eqb}
use Rattle.std.specs.List.{cons_option}
use Rattle.std.proofs.lemmas.Bool.{and_from}
use Rattle.std.proofs.lemmas.List.Elements.{All-contains, All-contains_itself, All-filter, All-from_recursion, All-map, All-weaker, recursion_from_All, Contains-append_left, Contains-append_right, Contains-append_cases}
use Rattle.plant_base.specs.{edge_kind_number, edge_order, edge_total, same, EdgeKind, EdgeRow, Movement}
use Rattle.plant_view.proofs.ListLemmas.{same_itself, all_put_all}
use Rattle.plant_base.specs.declared.rows.EdgeKind.TheVariants.{LotToBatch}
use Rattle.plant_base.proofs.EdgeIsItsKey.{one_edge}
use Rattle.plant_view.proofs.MappedContains.{mapped_in, filtered_in, come}
use Rattle.plant_tables_columns.proofs.OptionalValues.{some_same}
use Rattle.plant_trace.proofs.SortedNodes.{Lists-same}
use Rattle.plant_trace.specs.{IsNext, Lists, turned, Direction, Node}
use Rattle.plant_trace.specs.declared.direction.Direction.TheVariants.{Forward, Back}
use Rattle.plant_view.specs.{edge_row_of, edge_rows, edges_among, ends_by, ends_of}
use Rattle.plant_keyed.specs.{near_id, begins_at, id_of, AreKindsAt, HasEdgesAt}

-- ---- lists

module _ {X Y : Type 0} (f : X → Y) where
  -- it was mapped of one of the list
  abbrev pub IsMapped : List X → Y → Type 0
  IsMapped xs y = (x : X) × Contains xs x × (f x ≡ y)

  pub mapped_of : (xs : List X) (y : Y) → Contains (map f xs) y → IsMapped xs y
  mapped_of xs y has = All-contains (IsMapped xs) (map f xs) y (All-map (IsMapped xs) f xs (All-weaker (Contains xs) (λ x. IsMapped xs (f x)) (λ x there. (x, there, refl)) xs (All-contains_itself xs))) has

  module _ {W : Type 0} (g : W → Option X) where
    map_first : (o : Option X) (ys : List Y) (xs : List X) → ys ≡ map f xs → cons_option (option_map f o) ys ≡ map f (cons_option o xs)
    map_first None ys xs e = e
    map_first (Some x) ys xs e = ap (λ l. f x ∷ l) e

    map_kept : (ws : List W) → filter_map (λ w. option_map f (g w)) ws ≡ map f (filter_map g ws)
    map_kept [] = refl
    map_kept (w ∷ ws) = map_first (g w) _ (filter_map g ws) (map_kept ws)

among_all : {X : Type 0} (test : X → Bool) (xs : List X) (x : X) → Contains (filter test xs) x → Contains xs x
among_all test xs x has = All-contains (Contains xs) (filter test xs) x (All-filter test (Contains xs) xs (All-contains_itself xs)) has

-- ---- what an edge begins at

near_is : (d : Direction) (e : EdgeRow) → id_of (turned d (ends_of e)).0 ≡ near_id d e
near_is d e = by d e.kind
  where
    by : (d : Direction) (k : EdgeKind) → id_of (turned d (ends_by k e.from e.to)).0 ≡ near_id d e
    by Forward LotToBatch = refl
    by Forward _ = refl
    by Back LotToBatch = refl
    by Back _ = refl

-- an edge of the kind that begins at the node passes the test of the node's id
passes : (d : Direction) (x : Node) (id : List ℕ) (kind : EdgeKind) (e : EdgeRow) → id ≡ id_of x → e.kind ≡ kind → (turned d (ends_of e)).0 ≡ x → begins_at d kind id e ≡ true
passes d x id kind e named is begins =
    let near : near_id d e ≡ id = sym (near_is d e) ∙ ap id_of begins ∙ sym named in
    let of_kind : (edge_kind_number e.kind == edge_kind_number kind) ≡ true = eq-eqb _ _ (ap edge_kind_number is) in
    and_from _ _ of_kind (subst (λ (a : List ℕ). same (near_id d e) a ≡ true) near (same_itself (near_id d e)))

-- ---- the rows of all edges

module _ (ms : List Movement) where
  abbrev made : List EdgeRow
  made = filter_map edge_row_of ms

  -- each of them was made by a movement
  row_made : (e : EdgeRow) → Contains (edge_rows ms) e → Contains made e
  row_made e has =
      let each = all_put_all edge_order edge_total (Contains made) made [] (recursion_from_All (Contains made) made (All-contains_itself made)) tt in
      All-contains (Contains made) (edge_rows ms) e (All-from_recursion (Contains made) (edge_rows ms) each) has

  pub row_pair : (e : EdgeRow) → Contains (edge_rows ms) e → Contains (edges_among ms) (ends_of e)
  row_pair e has = subst (λ es. Contains es (ends_of e)) (sym (map_kept ends_of edge_row_of ms)) (mapped_in ends_of made e (row_made e has))

  -- and each edge has its row
  pub pair_row : (p : Node × Node) → Contains (edges_among ms) p → IsMapped ends_of (edge_rows ms) p
  pair_row p has =
      let of_row = mapped_of ends_of made p (subst (λ es. Contains es p) (map_kept ends_of edge_row_of ms) has) in
      (of_row.0, come edge_order one_edge made [] of_row.0 of_row.1, of_row.2)

  module _ (d : Direction) (x : Node) (id : List ℕ) (named : id ≡ id_of x) where
    -- some of these rows, among them each that begins at the node
    by_rows : (some : List EdgeRow) → ((e : EdgeRow) → Contains some e → Contains (edge_rows ms) e) → ((e : EdgeRow) → Contains (edge_rows ms) e → (turned d (ends_of e)).0 ≡ x → Contains some e)
        → HasEdgesAt d x (edges_among ms) (map ends_of some)
    by_rows some only each = record {
      only = λ p has.
          let of_row = mapped_of ends_of some p has in
          subst (Contains (edges_among ms)) of_row.2 (row_pair of_row.0 (only of_row.0 of_row.1));
      each = λ p has begins.
          let of_row = pair_row p has in
          subst (Contains (map ends_of some)) of_row.2 (mapped_in ends_of some of_row.0 (each of_row.0 of_row.1 (ap (λ (q : Node × Node). (turned d q).0) of_row.2 ∙ begins)));
    }

    -- those of a kind that begin at the node's id
    abbrev of_kind : EdgeKind → List EdgeRow
    of_kind kind = filter (begins_at d kind id) (edge_rows ms)

    has_its_own : (kind : EdgeKind) (e : EdgeRow) → Contains (edge_rows ms) e → (turned d (ends_of e)).0 ≡ x → e.kind ≡ kind → Contains (of_kind kind) e
    has_its_own kind e has begins is = filtered_in (begins_at d kind id) (edge_rows ms) e (passes d x id kind e named is begins) has

    module _ (kinds : EdgeKind × Option EdgeKind) (are : AreKindsAt d x kinds) where
      -- where there is one kind its rows are all, and where there are two those of both
      pub by_one : kinds.1 ≡ None → HasEdgesAt d x (edges_among ms) (map ends_of (of_kind kinds.0))
      by_one none = by_rows (of_kind kinds.0) (among_all _ (edge_rows ms)) (λ e has begins. elim (are e begins) [
        | inl first ↦ has_its_own kinds.0 e has begins first
        | inr second ↦ absurd cc
      ])

      pub by_two : (kind : EdgeKind) → kinds.1 ≡ Some kind → HasEdgesAt d x (edges_among ms) (map ends_of (of_kind kinds.0 ++ of_kind kind))
      by_two kind second = by_rows (of_kind kinds.0 ++ of_kind kind)
          (λ e has. elim (Contains-append_cases (of_kind kinds.0) (of_kind kind) e has) [
            | inl here ↦ among_all _ (edge_rows ms) e here
            | inr there ↦ among_all _ (edge_rows ms) e there
          ])
          (λ e has begins. elim (are e begins) [
            | inl is ↦ Contains-append_left (of_kind kinds.0) (of_kind kind) e (has_its_own kinds.0 e has begins is)
            | inr is ↦ Contains-append_right (of_kind kinds.0) (of_kind kind) e (has_its_own kind e has begins (some_same e.kind kind (is ∙ second)))
          ])

-- the nodes next to the node are the same by some of the edges as by all
pub next_by : (d : Direction) (x : Node) (all some : List (Node × Node)) (nodes : List Node) → HasEdgesAt d x all some → Lists (IsNext d some x) nodes → Lists (IsNext d all x) nodes
next_by Forward x all some nodes has = Lists-same (IsNext Forward some x) (IsNext Forward all x) nodes (λ y. has.only (x, y)) (λ y next. has.each (x, y) next refl)
next_by Back x all some nodes has = Lists-same (IsNext Back some x) (IsNext Back all x) nodes (λ y. has.only (y, x)) (λ y next. has.each (y, x) next refl)
