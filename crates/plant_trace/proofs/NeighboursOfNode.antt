-- The neighbours of a node in a list of pairs, pair by pair.
use Rattle.std.proofs.Common.{◌≡◌, ℕ, ◌<◌, ◌+◌, true, List, [], ◌∷◌, ◌++◌, take, length, get_or, subst, inl, inr, ◌⊎◌, ⊎_elim, ◌∙◌, ap, Contains, BTreeSet}
use Rattle.std.specs.BTreeSet.{Updates}
use Rattle.std.proofs.lemmas.List.{take_more}
use Rattle.std.proofs.lemmas.List.Elements.{Contains-append_left, Contains-push, Contains-push_cases}
use Rattle.plant_trace.specs.{node_cmp, IsNext, turned}
use Rattle.plant_trace.specs.declared.node.Node.{Node}
use Rattle.plant_trace.specs.declared.direction.Direction.{Direction}
use Rattle.plant_trace.specs.declared.direction.Direction.TheVariants.{Forward, Back}
use Rattle.plant_trace.proofs.NodeSets.{HasExactly, came, comes, stays}

module _ (ps : List (Node × Node)) (p : Node × Node) (x y : Node) where
  next_cases : (d : Direction) → IsNext d (ps ++ p ∷ []) x y → IsNext d ps x y ⊎ (turned d p ≡ (x, y))
  next_cases Forward h = Contains-push_cases ps p (x, y) h
  next_cases Back h = ⊎_elim inl (λ e. inr (ap (λ (q : Node × Node). (q.1, q.0)) e)) (Contains-push_cases ps p (y, x) h)

  next_stays : (d : Direction) → IsNext d ps x y → IsNext d (ps ++ p ∷ []) x y
  next_stays Forward h = Contains-append_left ps (p ∷ []) (x, y) h
  next_stays Back h = Contains-append_left ps (p ∷ []) (y, x) h

  next_comes : (d : Direction) → turned d p ≡ (x, y) → IsNext d (ps ++ p ∷ []) x y
  next_comes Forward e = subst (Contains (ps ++ p ∷ [])) e (Contains-push ps p)
  next_comes Back e = subst (Contains (ps ++ p ∷ [])) (ap (λ (q : Node × Node). (q.1, q.0)) e) (Contains-push ps p)

module _ (d : Direction) (ps : List (Node × Node)) (i : ℕ) (p : Node × Node) (within : i < length ps) (x : Node) where
  -- a pair that begins elsewhere
  pub Nexts-other : (found : List Node) → ((turned d (get_or ps i p)).0 ≡ x → ⊥) → HasExactly (IsNext d (take i ps) x) found → HasExactly (IsNext d (take (i + 1) ps) x) found
  Nexts-other found ne h = rw (take_more ps i p within) (record {
    only = λ y c. next_stays (take i ps) (get_or ps i p) x y d (h.only y c);
    all = λ y c. ⊎_elim (h.all y) (λ e. absurd (ne (ap (λ (q : Node × Node). q.0) e))) (next_cases (take i ps) (get_or ps i p) x y d c);
  })

  -- a pair that begins here
  pub Nexts-here : (s n : BTreeSet Node) → (turned d (get_or ps i p)).0 ≡ x → Updates node_cmp s n (turned d (get_or ps i p)).1 true → HasExactly (IsNext d (take i ps) x) s.keys → HasExactly (IsNext d (take (i + 1) ps) x) n.keys
  Nexts-here s n e u h =
      let q = turned d (get_or ps i p) in
      rw (take_more ps i p within) (record {
        only = λ y c. ⊎_elim (λ k. next_comes (take i ps) (get_or ps i p) x y d (ap (λ (a : Node). (a, q.1)) e ∙ ap (λ (b : Node). (x, b)) k)) (λ o. next_stays (take i ps) (get_or ps i p) x y d (h.only y o)) (came s n q.1 u y c);
        all = λ y c. ⊎_elim (λ o. stays s n q.1 u y (h.all y o)) (λ k. subst (Contains n.keys) (ap (λ (r : Node × Node). r.1) k) (comes s n q.1 u)) (next_cases (take i ps) (get_or ps i p) x y d c);
      })
