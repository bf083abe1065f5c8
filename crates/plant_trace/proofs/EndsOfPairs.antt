-- The ends of pairs, pair by pair.
use Rattle.std.proofs.Common.{◌≡◌, ◌∙◌, ℕ, ◌+◌, ◌<◌, true, List, [], ◌∷◌, ◌++◌, take, length, get_or, sym, ap, subst, inl, inr, ⊎_elim, Contains, BTreeSet}
use Rattle.std.specs.BTreeSet.{Updates}
use Rattle.std.proofs.lemmas.List.{take_more}
use Rattle.std.proofs.lemmas.List.Elements.{Contains-append_left, Contains-push, Contains-push_cases}
use Rattle.plant_trace.specs.{node_cmp, HasEdge, IsMentioned}
use Rattle.plant_trace.specs.declared.node.Node.{Node}
use Rattle.plant_trace.proofs.NodeSets.{HasExactly, came, comes, none_in, stays}

pub ends_none : (keys : List Node) → keys ≡ [] → HasExactly (IsMentioned []) keys
ends_none keys e = rw e (record {
  only = λ y h. absurd (none_in y h);
  all = λ y h. absurd (⊎_elim (λ c. none_in (y, h.0) c) (λ c. none_in (h.0, y) c) h.1);
})

module _ (ps : List (Node × Node)) (p : Node × Node) (s m n : BTreeSet Node) (first : Updates node_cmp s m p.0 true) (second : Updates node_cmp m n p.1 true) (had : HasExactly (IsMentioned ps) s.keys) where
  kept : (y : Node) → IsMentioned ps y → IsMentioned (ps ++ p ∷ []) y
  kept y h = (h.0, ⊎_elim (λ c. inl (Contains-append_left ps (p ∷ []) (y, h.0) c)) (λ c. inr (Contains-append_left ps (p ∷ []) (h.0, y) c)) h.1)

  is_end : (y : Node) → Contains n.keys y → IsMentioned (ps ++ p ∷ []) y
  is_end y h = ⊎_elim
      (λ e. (p.0, inr (subst (λ (z : Node). HasEdge (ps ++ p ∷ []) p.0 z) e (Contains-push ps p))))
      (λ i. ⊎_elim (λ e. (p.1, inl (subst (λ (z : Node). HasEdge (ps ++ p ∷ []) z p.1) e (Contains-push ps p)))) (λ o. kept y (had.only y o)) (came s m p.0 first y i))
      (came m n p.1 second y h)

  still : (y : Node) → IsMentioned ps y → Contains n.keys y
  still y h = stays m n p.1 second y (stays s m p.0 first y (had.all y h))

  has_end : (y : Node) → IsMentioned (ps ++ p ∷ []) y → Contains n.keys y
  has_end y (z, h) = ⊎_elim
      (λ c. ⊎_elim (λ o. still y (z, inl o)) (λ e. subst (Contains n.keys) (ap (λ (q : Node × Node). q.0) e) (stays m n p.1 second p.0 (comes s m p.0 first))) (Contains-push_cases ps p (y, z) c))
      (λ c. ⊎_elim (λ o. still y (z, inr o)) (λ e. subst (Contains n.keys) (ap (λ (q : Node × Node). q.1) e) (comes m n p.1 second)) (Contains-push_cases ps p (z, y) c))
      h

  ends_push : HasExactly (IsMentioned (ps ++ p ∷ [])) n.keys
  ends_push = record { only = is_end; all = has_end }

-- the turn of a loop over the pairs
pub ends_more : (pairs : List (Node × Node)) (i : ℕ) (p : Node × Node) (s m n : BTreeSet Node) → i < length pairs → p ≡ get_or pairs i p → Updates node_cmp s m p.0 true → Updates node_cmp m n p.1 true
    → HasExactly (IsMentioned (take i pairs)) s.keys → HasExactly (IsMentioned (take (i + 1) pairs)) n.keys
ends_more pairs i p s m n h is first second had =
    let more : take (i + 1) pairs ≡ take i pairs ++ p ∷ [] = take_more pairs i p h ∙ ap (λ (q : Node × Node). take i pairs ++ q ∷ []) (sym is) in
    subst (λ (ps : List (Node × Node)). HasExactly (IsMentioned ps) n.keys) (sym more) (ends_push (take i pairs) p s m n first second had)
