-- Nodes that are taken once all that lead to them are: in the order in which they are taken pairs lead on, and where no node
-- reaches itself all are taken.
use Rattle.std.proofs.Common.{◌≡◌, ◌∙◌, ℕ, ◌+◌, ◌<◌, ◌≤◌, List, [], ◌∷◌, ◌++◌, take, length, get_or, Option, Some, None, refl, sym, ap, subst, inl, inr, ◌⊎◌, ⊎_elim, arith, Contains, IsSome, slice_get, unwrap_or, All, BTreeMap, btree_map_len, get_or-take, length-take-le}
use Rattle.std.specs.BTreeMap.{get}
use Rattle.std.proofs.lemmas.Bool.{cases_lt}
use Rattle.std.proofs.lemmas.List.{take_more}
use Rattle.std.proofs.lemmas.List.Elements.{All-cons, All-contains, All-nil, All-weaker, Contains-get_or}
use Rattle.std.proofs.lemmas.Option.{get_or_from_slice_get, same_Some, slice_get-get_or, slice_get_within}
use Rattle.plant_trace.specs.{AreIndexes, Grows, HasFirst, IsNumbering, RiseIfAcyclic, node_cmp, rank_of, HasEdge, IsAcyclic, leads, step, AreDistinct, AreWaiting, Awaits, IsMentioned}
use Rattle.plant_trace.specs.Reach.{Reach}
use Rattle.plant_trace.specs.declared.node.Node.{Node}
use Rattle.plant_trace.proofs.AddingKeepsAcyclic.{joined}
use Rattle.plant_trace.proofs.DistinctNodes.{decided, distinct_at, in_or_not, not_before, some_of}
use Rattle.plant_trace.proofs.IndexesNoted.{Grows-longer, Grows-prefix, slice_get_prefix}
use Rattle.plant_trace.proofs.LeadsIsReach.{first_in, leads_where_reached, rest_in}
use Rattle.plant_trace.proofs.NodeSets.{none_in}

-- each node that leads to one in the list is before it
abbrev pub IsInOrder : List (Node × Node) → List Node → Type 0
IsInOrder pairs ready = (i : ℕ) (v x : Node) → slice_get ready i ≡ Some x → HasEdge pairs v x → (j : ℕ) × (j < i) × (slice_get ready j ≡ Some v)

some_at : (o : Option ℕ) → IsSome o → (n : ℕ) × (o ≡ Some n)
some_at None h = absurd cc
some_at (Some n) h = (n, refl)

in_from_slice_get : (xs : List Node) (i : ℕ) (x : Node) → slice_get xs i ≡ Some x → Contains xs x
in_from_slice_get xs i x e = (i, slice_get_within xs i x e, get_or_from_slice_get xs i x x e)

slice_get_from_get_or : (xs : List Node) (i : ℕ) (x : Node) → i < length xs → get_or xs i x ≡ x → slice_get xs i ≡ Some x
slice_get_from_get_or xs i x h e = slice_get-get_or xs i x h ∙ ap (λ (y : Node). Some y) e

reached_or_not : (pairs : List (Node × Node)) (a b : Node) → Reach (HasEdge pairs) a b ⊎ (Reach (HasEdge pairs) a b → ⊥)
reached_or_not pairs a b = decided (leads pairs a b) (Reach (HasEdge pairs) a b) (leads_where_reached pairs a b)

-- ---- the turns of the loop

pub order_none : (pairs : List (Node × Node)) (left : BTreeMap Node ℕ) (ready : List Node) → AreWaiting (Awaits pairs []) (IsMentioned pairs) left ready → IsInOrder pairs ready
order_none pairs left ready w i v x e edge = absurd (w.free x v (in_from_slice_get ready i x e) (edge, none_in v))

pub taken_more : (ready grown : List Node) (at : ℕ) (d : Node) → at < length ready → Grows ready grown → take (at + 1) grown ≡ take at ready ++ get_or ready at d ∷ []
taken_more ready grown at d h grows = Grows-prefix (at + 1) ready grown (omega (arith, h)) grows ∙ take_more ready at d h

module _ (pairs : List (Node × Node)) (left : BTreeMap Node ℕ) (ready grown : List Node) (at : ℕ) (here : at < length ready) (grows : Grows ready grown)
    (w : AreWaiting (Awaits pairs (take (at + 1) grown)) (IsMentioned pairs) left grown) (order : IsInOrder pairs ready) where
  order_before : (i : ℕ) (v x : Node) → i < length ready → slice_get grown i ≡ Some x → HasEdge pairs v x → (j : ℕ) × (j < i) × (slice_get grown j ≡ Some v)
  order_before i v x h e edge =
      let old : slice_get ready i ≡ Some (get_or ready i x) = slice_get-get_or ready i x h in
      let same : get_or ready i x ≡ x = same_Some (get_or ready i x) x (sym (grown_at i (get_or ready i x) old) ∙ e) in
      let j = order i v x (old ∙ ap (λ (y : Node). Some y) same) edge in
      (j.0, j.1, grown_at j.0 v j.2)
    where
      grown_at : (k : ℕ) (y : Node) → slice_get ready k ≡ Some y → slice_get grown k ≡ Some y
      grown_at k y f = subst (λ (l : List Node). slice_get l k ≡ Some y) (sym grows.1) (slice_get_prefix ready grows.0 k y f)

  order_after : (i : ℕ) (v x : Node) → length ready ≤ i → slice_get grown i ≡ Some x → HasEdge pairs v x → (j : ℕ) × (j < i) × (slice_get grown j ≡ Some v)
  order_after i v x h e edge =
      let long = Grows-longer ready grown grows in
      let len : length (take (at + 1) grown) ≡ at + 1 = length-take-le (at + 1) grown (omega (arith, here, long)) in
      ⊎_elim
      (λ t. let below : t.0 < at + 1 = omega (arith, t.1, len) in
      (t.0, omega (arith, below, here, h), slice_get_from_get_or grown t.0 v (omega (arith, below, here, long)) (sym (get_or-take (at + 1) grown t.0 v below) ∙ t.2)))
      (λ absent. absurd (w.free x v (in_from_slice_get grown i x e) (edge, absent)))
      (in_or_not (take (at + 1) grown) v)

  pub order_more : IsInOrder pairs grown
  order_more i v x e edge = ⊎_elim (λ h. order_before i v x h e edge) (λ h. order_after i v x h e edge) (cases_lt i (length ready))

-- a node that is to be taken has no position yet
module _ (ready : List Node) (at : ℕ) (d : Node) (positions : BTreeMap Node ℕ) (here : at < length ready) (distinct : AreDistinct ready) (ranks : AreIndexes (take at ready) positions) where
  unplaced_at : (o : Option ℕ) → get node_cmp positions (get_or ready at d) ≡ o → o ≡ None
  unplaced_at None e = refl
  unplaced_at (Some n) e = absurd (not_before ready at d distinct here (in_from_slice_get (take at ready) n (get_or ready at d) (ranks.there (get_or ready at d) n e)))

  pub unplaced : get node_cmp positions (get_or ready at d) ≡ None
  unplaced = unplaced_at (get node_cmp positions (get_or ready at d)) refl

-- ---- when each ready node is taken

module _ (pairs : List (Node × Node)) (left : BTreeMap Node ℕ) (ready : List Node) (w : AreWaiting (Awaits pairs ready) (IsMentioned pairs) left ready) where
  at_count : (x : Node) (o : Option ℕ) → IsMentioned pairs x → get node_cmp left x ≡ o → Contains ready x ⊎ ((v : Node) × Awaits pairs ready x v)
  at_count x None m e = inl (w.all x m e)
  at_count x (Some n) m e = let c = w.counted x n e in inr (some_of (Awaits pairs ready x) n c.1 c.0)

  -- a node is taken, or one that leads to it isn't
  taken_or_awaits : (x : Node) → IsMentioned pairs x → Contains ready x ⊎ ((v : Node) × Awaits pairs ready x v)
  taken_or_awaits x m = at_count x (get node_cmp left x) m refl

  pub first_taken : HasFirst pairs ready
  first_taken x y edge unled = ⊎_elim (λ t. t) (λ a. absurd (unled a.0 a.1.0)) (taken_or_awaits x (y, inl edge))

  -- of these nodes none that isn't taken leads to m, which isn't taken
  pub record IsEarliest (xs : List Node) : Type 0 where
    pub m : Node
    pub among : Contains xs m
    pub untaken : Contains ready m → ⊥
    pub earliest : All (λ y. (Contains ready y → ⊥) → Reach (HasEdge pairs) y m → ⊥) xs

  module _ (acyclic : IsAcyclic pairs) where
    later : (x : Node) (xs : List Node) → Contains ready x → IsEarliest xs → IsEarliest (x ∷ xs)
    later x xs t r = record {
      m = r.m;
      among = rest_in x xs r.m r.among;
      untaken = r.untaken;
      earliest = All-cons (λ (y : Node). (Contains ready y → ⊥) → Reach (HasEdge pairs) y r.m → ⊥) x xs (λ absent reach. absent t) r.earliest;
    }

    alone : (x : Node) (xs : List Node) → (Contains ready x → ⊥) → All (Contains ready) xs → IsEarliest (x ∷ xs)
    alone x xs absent all = record {
      m = x;
      among = first_in x xs;
      untaken = absent;
      earliest = All-cons (λ (y : Node). (Contains ready y → ⊥) → Reach (HasEdge pairs) y x → ⊥) x xs (λ n reach. acyclic x reach)
          (All-weaker (Contains ready) (λ (y : Node). (Contains ready y → ⊥) → Reach (HasEdge pairs) y x → ⊥) (λ y t n reach. n t) xs all);
    }

    earlier : (x : Node) (xs : List Node) → (Contains ready x → ⊥) → IsEarliest xs → IsEarliest (x ∷ xs)
    earlier x xs absent r = ⊎_elim
        (λ reach. record {
          m = x;
          among = first_in x xs;
          untaken = absent;
          earliest = All-cons (λ (y : Node). (Contains ready y → ⊥) → Reach (HasEdge pairs) y x → ⊥) x xs (λ n round. acyclic x round)
              (All-weaker (λ (y : Node). (Contains ready y → ⊥) → Reach (HasEdge pairs) y r.m → ⊥) (λ (y : Node). (Contains ready y → ⊥) → Reach (HasEdge pairs) y x → ⊥)
              (λ y f n to. f n (joined (HasEdge pairs) to reach)) xs r.earliest);
        })
        (λ apart. record {
          m = r.m;
          among = rest_in x xs r.m r.among;
          untaken = r.untaken;
          earliest = All-cons (λ (y : Node). (Contains ready y → ⊥) → Reach (HasEdge pairs) y r.m → ⊥) x xs (λ n reach. apart reach) r.earliest;
        })
        (reached_or_not pairs x r.m)

    all_or_earliest : (xs : List Node) → All (Contains ready) xs ⊎ IsEarliest xs
    all_or_earliest [] = inl (All-nil (Contains ready))
    all_or_earliest (x ∷ xs) = ⊎_elim
        (λ t. ⊎_elim (λ all. inl (All-cons (Contains ready) x xs t all)) (λ r. inr (later x xs t r)) (all_or_earliest xs))
        (λ absent. ⊎_elim (λ all. inr (alone x xs absent all)) (λ r. inr (earlier x xs absent r)) (all_or_earliest xs))
        (in_or_not ready x)

    module _ (nodes : List Node) (lists : (x : Node) → IsMentioned pairs x → Contains nodes x) (only : (x : Node) → Contains nodes x → IsMentioned pairs x) where
      no_earliest : IsEarliest nodes → ⊥
      no_earliest r = ⊎_elim r.untaken
          (λ a. All-contains (λ (y : Node). (Contains ready y → ⊥) → Reach (HasEdge pairs) y r.m → ⊥) nodes a.0 r.earliest (lists a.0 (r.m, inl a.1.0)) a.1.1 (step a.1.0))
          (taken_or_awaits r.m (only r.m r.among))

      pub all_taken : (x : Node) → IsMentioned pairs x → Contains ready x
      all_taken x m = ⊎_elim (λ all. All-contains (Contains ready) nodes x all (lists x m)) (λ r. absurd (no_earliest r)) (all_or_earliest nodes)

  module _ (positions : BTreeMap Node ℕ) (ranks : AreIndexes ready positions) (order : IsInOrder pairs ready) where
    placed_at : (x : Node) → Contains ready x → (n : ℕ) × (get node_cmp positions x ≡ Some n)
    placed_at x h = some_at (get node_cmp positions x) (ranks.found x h)

    -- a node's index is its position
    place_is : (x : Node) (i n : ℕ) → slice_get ready i ≡ Some x → get node_cmp positions x ≡ Some n → i ≡ n
    place_is x i n e f =
        let t = ranks.there x n f in
        distinct_at ready w.distinct i n x (slice_get_within ready i x e) (slice_get_within ready n x t) (get_or_from_slice_get ready i x x e) (get_or_from_slice_get ready n x x t)

    rises_at : (v x : Node) → HasEdge pairs v x → Contains ready x → rank_of positions v < rank_of positions x
    rises_at v x edge h =
        let n = placed_at x h in
        let j = order n.0 v x (ranks.there x n.0 n.1) edge in
        let k = placed_at v (in_from_slice_get ready j.0 v j.2) in
        let same = place_is v j.0 k.0 j.2 k.1 in
        let low : rank_of positions v ≡ k.0 = ap (λ (o : Option ℕ). unwrap_or o 0) k.1 in
        let high : rank_of positions x ≡ n.0 = ap (λ (o : Option ℕ). unwrap_or o 0) n.1 in
        omega (arith, low, high, same, j.1)

    pub rises_if_acyclic : (nodes : List Node) → ((x : Node) → IsMentioned pairs x → Contains nodes x) → ((x : Node) → Contains nodes x → IsMentioned pairs x) → RiseIfAcyclic pairs positions
    rises_if_acyclic nodes lists only acyclic = λ k d h.
        let p = get_or pairs k d in
        let edge : HasEdge pairs p.0 p.1 = Contains-get_or pairs k d h in
        rises_at p.0 p.1 edge (all_taken acyclic nodes lists only p.1 (p.0, inr edge))

    pub numbered : btree_map_len positions ≡ length ready → IsNumbering pairs positions
    numbered len = record {
      below = λ x n e. let h = slice_get_within ready n x (ranks.there x n e) in omega (arith, h, len);
      apart = λ x y n e f. same_Some x y (sym (ranks.there x n e) ∙ ranks.there y n f);
      only = λ x s. let n = some_at (get node_cmp positions x) s in w.only x (in_from_slice_get ready n.0 x (ranks.there x n.0 n.1));
    }
