-- Where pairs lead is the least relation.
use Rattle.std.proofs.Common.{◌≡◌, true, List, [], ◌∷◌, sym, subst, ap, inl, inr, ◌⊎◌, ⊎_elim, refl, ◌&&◌, ◌||◌, Contains}
use Rattle.std.proofs.lemmas.Bool.{false≢true, or_cases, or_left, or_right, and_from, and_parts}
use Rattle.std.proofs.lemmas.List.Elements.{Contains-append_cases, Contains-append_left, Contains-append_right, Contains-push, Contains-push_cases}
use Rattle.plant_trace.specs.{node_eq, step, more, HasEdge, leads, LeadsWhereReached}
use Rattle.plant_trace.specs.Reach.{Reach}
use Rattle.plant_trace.specs.declared.node.Node.{Node}
use Rattle.plant_trace.proofs.NodeOrder.{node_eq_exact, node_eq_itself}
use Rattle.plant_trace.proofs.SearchFinds.{before}
use Rattle.plant_trace.proofs.AddingKeepsAcyclic.{UpTo, here, on, farther, first_edge, joined}
pub use Rattle.plant_trace.proofs.NodeSets.{none_in}

pub first_in : {X : Type 0} (y : X) (xs : List X) → Contains (y ∷ xs) y
first_in y xs = Contains-append_left (y ∷ []) xs y (Contains-push [] y)

pub rest_in : {X : Type 0} (y : X) (xs : List X) (x : X) → Contains xs x → Contains (y ∷ xs) x
rest_in y xs x e = Contains-append_right (y ∷ []) xs x e

pub first_or_rest : {X : Type 0} (y : X) (xs : List X) (x : X) → Contains (y ∷ xs) x → (y ≡ x) ⊎ Contains xs x
first_or_rest y xs x e = ⊎_elim (λ f. ⊎_elim (λ n. absurd (none_in x n)) (λ s. inl s) (Contains-push_cases [] y x f)) (λ r. inr r) (Contains-append_cases (y ∷ []) xs x e)

pub still_or_on : {X : Type 0} {E : X → X → Type 0} {a b : X} → UpTo E a b → (a ≡ b) ⊎ Reach E a b
still_or_on here = inl refl
still_or_on (on r) = inr r

module _ (p : Node × Node) (ps : List (Node × Node)) where
  -- a walk along the pairs after the first, or up to the first and on from it
  abbrev Splits : Node → Node → Type 0
  Splits a b = Reach (HasEdge ps) a b ⊎ (UpTo (HasEdge ps) a p.0 × UpTo (HasEdge ps) p.1 b)

  -- every walk is one of these
  splits : {a b : Node} → Reach (HasEdge (p ∷ ps)) a b → Splits a b
  splits (step {a = u} {b = v} e) =
      ⊎_elim
      (λ same. inr (subst (UpTo (HasEdge ps) u) (sym (ap (λ q. q.0) same)) here, subst (λ x. UpTo (HasEdge ps) x v) (sym (ap (λ q. q.1) same)) here))
      (λ f. inl (step f))
      (first_or_rest p ps (u, v) e)
  splits (more {a = u} {b = w} {c = v} r e) =
      ⊎_elim
      (λ same. inr (
        ⊎_elim (λ s. subst (UpTo (HasEdge ps) u) (sym (ap (λ q. q.0) same)) (on s)) (λ c. c.0) (splits r),
        subst (λ x. UpTo (HasEdge ps) x v) (sym (ap (λ q. q.1) same)) here,
      ))
      (λ f. ⊎_elim (λ s. inl (more s f)) (λ c. inr (c.0, on (farther c.1 f))) (splits r))
      (first_or_rest p ps (w, v) e)

  -- and each of these is a walk
  wider : {a b : Node} → Reach (HasEdge ps) a b → Reach (HasEdge (p ∷ ps)) a b
  wider (step {a = u} {b = v} e) = step (rest_in p ps (u, v) e)
  wider (more {a = u} {b = w} {c = v} r e) = more (wider r) (rest_in p ps (w, v) e)

  onward : {b : Node} → UpTo (HasEdge ps) p.1 b → Reach (HasEdge (p ∷ ps)) p.0 b
  onward here = step (first_in p ps)
  onward (on r) = before (HasEdge (p ∷ ps)) (first_in p ps) (wider r)

  upward : {a b : Node} → UpTo (HasEdge ps) a p.0 → Reach (HasEdge (p ∷ ps)) p.0 b → Reach (HasEdge (p ∷ ps)) a b
  upward here r = r
  upward (on s) r = joined (HasEdge (p ∷ ps)) (wider s) r

leads_consistent : (pairs : List (Node × Node)) (a b : Node) → leads pairs a b ≡ true → Reach (HasEdge pairs) a b
unfolding leads
leads_consistent [] a b e = absurd (false≢true e)
leads_consistent (p ∷ ps) a b e =
    let up : (node_eq a p.0 || leads ps a p.0) ≡ true → UpTo (HasEdge ps) a p.0 = λ u. ⊎_elim (λ same. subst (UpTo (HasEdge ps) a) (node_eq_exact a p.0 same) here) (λ l. on (leads_consistent ps a p.0 l)) (or_cases _ _ u) in
    let off : (node_eq p.1 b || leads ps p.1 b) ≡ true → UpTo (HasEdge ps) p.1 b = λ u. ⊎_elim (λ same. subst (UpTo (HasEdge ps) p.1) (node_eq_exact p.1 b same) here) (λ l. on (leads_consistent ps p.1 b l)) (or_cases _ _ u) in
    ⊎_elim
    (λ l. wider p ps (leads_consistent ps a b l))
    (λ both. let ends = and_parts _ _ both in upward p ps (up ends.0) (onward p ps (off ends.1)))
    (or_cases _ _ e)

-- a node that is at another or leads there
near : (qs : List (Node × Node)) (x y : Node) → (Reach (HasEdge qs) x y → leads qs x y ≡ true) → UpTo (HasEdge qs) x y → (node_eq x y || leads qs x y) ≡ true
near qs x y complete u = ⊎_elim (λ same. or_left (node_eq x y) (leads qs x y) (node_eq_itself x y same)) (λ s. or_right (node_eq x y) (leads qs x y) (complete s)) (still_or_on u)

leads_complete : (pairs : List (Node × Node)) (a b : Node) → Reach (HasEdge pairs) a b → leads pairs a b ≡ true
unfolding leads
leads_complete [] a b r = let f = first_edge r in absurd (none_in (a, f.0) f.1)
leads_complete (p ∷ ps) a b r =
    let up = node_eq a p.0 || leads ps a p.0 in
    let off = node_eq p.1 b || leads ps p.1 b in
    ⊎_elim
    (λ s. or_left (leads ps a b) (up && off) (leads_complete ps a b s))
    (λ c. or_right (leads ps a b) (up && off) (and_from up off (near ps a p.0 (λ s. leads_complete ps a p.0 s) c.0) (near ps p.1 b (λ s. leads_complete ps p.1 b s) c.1)))
    (splits p ps r)

pub leads_where_reached : LeadsWhereReached
leads_where_reached pairs a b = (leads_consistent pairs a b, leads_complete pairs a b)
