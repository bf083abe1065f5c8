-- What makes no cycle.
use Rattle.std.proofs.Common.{List, ◌++◌, sym, subst, inl, inr, ◌⊎◌, ⊎_elim, refl}
use Rattle.std.proofs.lemmas.List.Elements.{Contains-append_cases}
use Rattle.plant_trace.specs.{step, more, HasEdge, IsAcyclic, LeadsInto, IntoKeepsAcyclic, NewKeepsAcyclic}
use Rattle.plant_trace.specs.Reach.{Reach}
use Rattle.plant_trace.specs.declared.node.Node.{Node}

-- a walk leaves its start by some edge
pub first_edge : {X : Type 0} {E : X → X → Type 0} {a b : X} → Reach E a b → (y : X) × E a y
first_edge (step {b = y} e) = (y, e)
first_edge (more r e) = first_edge r

-- and comes to its end by some edge
pub last_edge : {X : Type 0} {E : X → X → Type 0} {a b : X} → Reach E a b → (x : X) × E x b
last_edge (step {a = x} e) = (x, e)
last_edge (more {b = x} r e) = (x, e)

-- two walks, one after the other
pub joined : {X : Type 0} (E : X → X → Type 0) {a b c : X} → Reach E a b → Reach E b c → Reach E a c
joined E r (step e) = more r e
joined E r (more s e) = more (joined E r s) e

-- a walk, or no step at all
pub data UpTo {X : Type 0} (E : X → X → Type 0) : X → X → Type 0 where
  here : {a : X} → UpTo E a a
  on : {a b : X} → Reach E a b → UpTo E a b

pub farther : {X : Type 0} {E : X → X → Type 0} {a b c : X} → UpTo E a b → E b c → Reach E a c
farther here e = step e
farther (on r) e = more r e

module _ (b : Node) (pairs added : List (Node × Node)) (l : LeadsInto b pairs added) where
  -- a walk of the longer list is one of the shorter, or it comes to a node x that an added pair leaves, and ends beyond b
  pub record Crosses (u v : Node) : Type 0 where
    pub x : Node
    pub y : Node
    pub added_edge : HasEdge added x y
    pub to : UpTo (HasEdge pairs) u x
    pub from : UpTo (HasEdge pairs) b v

  pub crosses : {u v : Node} → Reach (HasEdge (pairs ++ added)) u v → Reach (HasEdge pairs) u v ⊎ Crosses u v
  crosses (step {a = u} {b = v} e) =
      ⊎_elim
      (λ f. inl (step f))
      (λ f. inr (record { x = u; y = v; added_edge = f; to = here; from = subst (UpTo (HasEdge pairs) b) (sym (l.into u v f)) here }))
      (Contains-append_cases pairs added (u, v) e)
  crosses (more {a = u} {b = w} {c = v} r e) =
      let beyond = λ (f : HasEdge added w v). subst (UpTo (HasEdge pairs) b) (sym (l.into w v f)) here in
      ⊎_elim
      (λ f. ⊎_elim (λ s. inl (more s f)) (λ c. inr (record { x = c.x; y = c.y; added_edge = c.added_edge; to = c.to; from = on (farther c.from f) })) (crosses r))
      (λ f. ⊎_elim (λ s. inr (record { x = w; y = v; added_edge = f; to = on s; from = beyond f })) (λ c. inr (record { x = c.x; y = c.y; added_edge = c.added_edge; to = c.to; from = beyond f })) (crosses r))
      (Contains-append_cases pairs added (w, v) e)

  -- b does not come back to where an added pair begins
  apart : (x y u : Node) → HasEdge added x y → UpTo (HasEdge pairs) u x → UpTo (HasEdge pairs) b u → ⊥
  apart x y u e here here = l.apart b y e refl
  apart x y u e here (on s) = l.prefetch x y e s
  apart x y u e (on r) here = l.prefetch x y e r
  apart x y u e (on r) (on s) = l.prefetch x y e (joined (HasEdge pairs) s r)

  no_cycle : IsAcyclic pairs → IsAcyclic (pairs ++ added)
  no_cycle a x r = ⊎_elim (a x) (λ c. apart c.x c.y x c.added_edge c.to c.from) (crosses r)

pub into_keeps : IntoKeepsAcyclic
into_keeps b pairs added l a = no_cycle b pairs added l a

pub new_keeps : NewKeepsAcyclic
new_keeps b pairs added end h a =
    no_cycle b pairs added (record {
      into = λ x y e. (h x y e).0;
      apart = λ x y e. (h x y e).1;
      prefetch = λ x y e r. let f = first_edge r in end f.0 f.1;
    }) a
