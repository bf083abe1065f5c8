-- Edges as a direction sees them, in the order of their near ends: what is found by halves is what begins at the node.
use Rattle.std.proofs.Common.{◌≡◌, ◌∙◌, ℕ, ◌+◌, ◌-◌, ◌<◌, ◌≤◌, true, false, List, [], ◌∷◌, map, filter, drop, length, get_or, slice_range, Contains, IsPermutation, refl, sym, ap, subst, inl, inr, arith, is_le, is_lt, Ordering, Less, Equal, Greater, length-take, length-drop, get_or-take, get_or-drop}
use Rattle.std.specs.List.Sorted.{IsNonDecreasingBy, IsPartitionPoint, IsPartitionedBy}
use Rattle.std.specs.Ordering.{ordering_index}
use Rattle.std.proofs.lemmas.Bool.{false≢true, cases_lt}
use Rattle.std.proofs.lemmas.Cmp.{tied_itself}
use Rattle.std.proofs.lemmas.List.Elements.{All-contains, All-contains_itself, All-drop, All-take}
use Rattle.std.proofs.lemmas.List.Sorted.{Contains-permutation, IsPermutation-sym, searchable_from_sorted}
use Rattle.plant_base.specs.{Movement}
use Rattle.plant_view.proofs.MappedContains.{mapped_in}
use Rattle.plant_trace.proofs.SortedNodes.{Lists-same}
use Rattle.plant_trace.specs.{node_cmp, node_total, IsNext, Lists, turned, Direction, Node}
use Rattle.plant_trace.specs.declared.direction.Direction.TheVariants.{Forward, Back}
use Rattle.plant_questions.proofs.RowsOfLot.{below_lt, below_le}
use Rattle.plant_keyed.specs.{Ascend, AreTurned, HasEdgesAt}
use Rattle.plant_keyed.proofs.EdgesAtNode.{mapped_of, row_pair, pair_row}
use Rattle.plant_view.specs.{edge_rows, edges_among, ends_of}

-- ---- turning

turned_twice : (d : Direction) (p : Node × Node) → turned d (turned d p) ≡ p
turned_twice Forward p = refl
turned_twice Back p = refl

-- the turned pairs in any order
pub turned_are : (d : Direction) (pairs links : List (Node × Node)) → IsPermutation (map (turned d) pairs) links → AreTurned d pairs links
turned_are d pairs links same p = (
  λ has. Contains-permutation (map (turned d) pairs) links (turned d p) same (mapped_in (turned d) pairs p has),
  λ has.
      let of_pair = mapped_of (turned d) pairs (turned d p) (Contains-permutation links (map (turned d) pairs) (turned d p) (IsPermutation-sym _ _ same) has) in
      let is : of_pair.0 ≡ p = sym (turned_twice d of_pair.0) ∙ ap (turned d) of_pair.2 ∙ turned_twice d p in
      subst (Contains pairs) is of_pair.1,
)

-- what comes next by the links comes next by the pairs, in their direction
pub next_turned : (d : Direction) (pairs links : List (Node × Node)) (x : Node) (nodes : List Node) → AreTurned d pairs links → Lists (IsNext Forward links x) nodes → Lists (IsNext d pairs x) nodes
next_turned Forward pairs links x nodes are = Lists-same (IsNext Forward links x) (IsNext Forward pairs x) nodes (λ y. (are (x, y)).1) (λ y. (are (x, y)).0)
next_turned Back pairs links x nodes are = Lists-same (IsNext Forward links x) (IsNext Back pairs x) nodes (λ y. (are (y, x)).1) (λ y. (are (y, x)).0)

-- ---- halving

lt_le : (a : Ordering) → is_lt a ≡ true → is_le a ≡ true
lt_le Less h = refl
lt_le Equal h = absurd (false≢true h)
lt_le Greater h = absurd (false≢true h)

module _ (x : Node) (links : List (Node × Node)) (ascend : Ascend links) where
  rises : IsNonDecreasingBy (λ (l : Node × Node). ordering_index (node_cmp l.0 x)) links
  rises = searchable_from_sorted node_total (λ (l : Node × Node). l.0) links x ascend

  pub parted_before : IsPartitionedBy (λ (l : Node × Node). is_lt (node_cmp l.0 x)) links
  parted_before i j d le lt h = below_lt _ _ (rises i j d le lt) h

  pub parted_up_to : IsPartitionedBy (λ (l : Node × Node). is_le (node_cmp l.0 x)) links
  parted_up_to i j d le lt h = below_le _ _ (rises i j d le lt) h

abbrev IsCountBefore : Node → List (Node × Node) → ℕ → Type 0
IsCountBefore x links = IsPartitionPoint (λ (l : Node × Node). is_lt (node_cmp l.0 x) ≡ true) (λ (l : Node × Node). is_lt (node_cmp l.0 x) ≡ false) links

abbrev IsCountUpTo : Node → List (Node × Node) → ℕ → Type 0
IsCountUpTo x links = IsPartitionPoint (λ (l : Node × Node). is_le (node_cmp l.0 x) ≡ true) (λ (l : Node × Node). is_le (node_cmp l.0 x) ≡ false) links

module _ (x : Node) (links : List (Node × Node)) (from to : ℕ) (low : from ≤ length links) (high : to ≤ length links) (before : IsCountBefore x links from) (up_to : IsCountUpTo x links to) where
  -- a link between the two counts the wrong way round would begin both before the node and after it
  crossed : to < from → ⊥
  crossed less =
      let d : Node × Node = (x, x) in
      false≢true (sym (up_to.1 to d (omega arith) (omega (arith, low))) ∙ lt_le _ (before.0 to d (omega arith) less))

  pub in_turn : from ≤ to
  in_turn = elim (cases_lt to from) [ inl less ↦ absurd (crossed less) | inr after ↦ after ]

  abbrev part : List (Node × Node)
  part = slice_range links from to

  itself : is_lt (node_cmp x x) ≡ false
  itself = ap is_lt (tied_itself node_total x)

  itself_too : is_le (node_cmp x x) ≡ true
  itself_too = ap is_le (tied_itself node_total x)

  -- a link that begins at the node is in the part
  here : (p : Node × Node) (k : ℕ) → k < length links → get_or links k p ≡ p → p.0 ≡ x → Contains part p
  here p k within is begins =
      let at : (get_or links k p).0 ≡ x = ap (λ (l : Node × Node). l.0) is ∙ begins in
      let late : k < from → ⊥ = λ early. false≢true (sym itself ∙ ap (λ n. is_lt (node_cmp n x)) (sym at) ∙ before.0 k p (omega arith) early) in
      let early : to ≤ k → ⊥ = λ late. false≢true (sym (up_to.1 k p late within) ∙ ap (λ n. is_le (node_cmp n x)) at ∙ itself_too) in
      elim (cases_lt k from) [
        | inl less ↦ absurd (late less)
        | inr cursor ↦ elim (cases_lt k to) [ inl inside ↦ within_part p k within is cursor inside | inr past ↦ absurd (early past) ]
      ]
    where
      within_part : (p : Node × Node) (k : ℕ) → k < length links → get_or links k p ≡ p → from ≤ k → k < to → Contains part p
      within_part p k within is cursor inside =
          let long = length-take (to - from) (drop from links) in
          let longer = length-drop from links in
          let read : get_or part (k - from) p ≡ get_or links (from + (k - from)) p = get_or-take (to - from) (drop from links) (k - from) p (omega arith) ∙ get_or-drop from links (k - from) p in
          let same : from + (k - from) ≡ k = omega arith in
          (k - from, omega (arith, long, longer), read ∙ ap (λ n. get_or links n p) same ∙ is)

  pub found_between : HasEdgesAt Forward x links part
  found_between = record {
    only = λ p has. All-contains (Contains links) part p (All-take (Contains links) (to - from) (drop from links) (All-drop (Contains links) from links (All-contains_itself links))) has;
    each = λ p has begins. here p has.0 has.1 has.2 begins;
  }

-- ---- all edges

-- the rows of all edges are those of each edge of the movements, and of no other
pub all_reported : (ms : List Movement) (d : Direction) (links : List (Node × Node)) → AreTurned d (map ends_of (edge_rows ms)) links → AreTurned d (edges_among ms) links
all_reported ms d links are p = (
  λ has. (are p).0 (let of_row = pair_row ms p has in subst (Contains (map ends_of (edge_rows ms))) of_row.2 (mapped_in ends_of (edge_rows ms) of_row.0 of_row.1)),
  λ has. let of_row = mapped_of ends_of (edge_rows ms) p ((are p).1 has) in subst (Contains (edges_among ms)) of_row.2 (row_pair ms of_row.0 of_row.1),
)

-- what all pass is the whole list
pub all_pass : {X : Type 0} (xs : List X) → filter (λ x. true) xs ≡ xs
all_pass [] = refl
all_pass (x ∷ xs) = ap (λ l. x ∷ l) (all_pass xs)
