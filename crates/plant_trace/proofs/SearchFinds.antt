-- What a search has found.
use Rattle.std.proofs.Common.{◌≡◌, ℕ, ◌<◌, ◌+◌, List, [], ◌∷◌, ◌++◌, take, length, get_or, sym, subst, ⊎_elim, arith, Contains, All}
use Rattle.std.specs.List.Sorted.{IsStrictlySortedBy}
use Rattle.std.proofs.lemmas.List.Elements.{All-weaker, All-push, Contains-get_or}
use Rattle.std.proofs.lemmas.List.{take_more}
use Rattle.plant_trace.specs.{node_cmp, step, more, IsNext, IsReached, HasEdge, Lists, Adds}
use Rattle.plant_trace.specs.Reach.{Reach}
use Rattle.plant_trace.specs.declared.node.Node.{Node}
use Rattle.plant_trace.specs.declared.direction.Direction.{Direction}
use Rattle.plant_trace.specs.declared.direction.Direction.TheVariants.{Forward, Back}

-- ---- reach, from either end
module _ {X : Type 0} (E : X → X → Type 0) where
  -- one edge in front
  pub before : {a b c : X} → E a b → Reach E b c → Reach E a c
  before e (step f) = more (step e) f
  before e (more r f) = more (before e r) f

module _ {X : Type 0} (E F : X → X → Type 0) (turn : (a b : X) → E a b → F b a) where
  pub turned : {a b : X} → Reach E a b → Reach F b a
  turned (step e) = step (turn _ _ e)
  turned (more r e) = before F (turn _ _ e) (turned r)

pub IsReached-from : (d : Direction) (pairs : List (Node × Node)) (x y : Node) → Reach (IsNext d pairs) x y → IsReached d pairs x y
IsReached-from Forward pairs x y r = r
IsReached-from Back pairs x y r = turned (λ a b. HasEdge pairs b a) (HasEdge pairs) (λ a b e. e) r

pub from_IsReached : (d : Direction) (pairs : List (Node × Node)) (x y : Node) → IsReached d pairs x y → Reach (IsNext d pairs) x y
from_IsReached Forward pairs x y r = r
from_IsReached Back pairs x y r = turned (HasEdge pairs) (λ a b. HasEdge pairs b a) (λ a b e. e) r

-- ---- a search along `Edge`
module _ (Edge : Node → Node → Type 0) where
  -- what comes right after each of these nodes is found
  pub record Asked (found : List Node) (x : Node) : Type 0 where
    pub next : (y : Node) → Edge x y → Contains found y

  pub record Found (start : Node) (found : List Node) : Type 0 where
    pub first : Asked found start
    pub sound : (y : Node) → Contains found y → Reach Edge start y

  -- the start alone was asked
  pub Found-first : (start : Node) (next new : List Node) → Adds next [] new → Lists (Edge start) next → Found start new
  Found-first start next new a l = record {
    first = record { next = λ y e. a.takes y (l.all y e) };
    sound = λ y h. ⊎_elim (λ i. absurd (omega (arith, i.1))) (λ i. step (l.only y i)) (a.only y h);
  }

  module _ (start : Node) (found : List Node) (f : Found start found) where
    -- one more node that is found was asked
    pub Found-more : (x : Node) (next new : List Node) → Contains found x → Adds next found new → Lists (Edge x) next → Found start new
    Found-more x next new within a l = record {
      first = record { next = λ y e. a.keeps y (f.first.next y e) };
      sound = λ y h. ⊎_elim (f.sound y) (λ i. more (f.sound x within) (l.only y i)) (a.only y h);
    }

    -- where each node that is found was asked, all that can be reached is found
    pub complete : ((x : Node) → Contains found x → Asked found x) → {y : Node} → Reach Edge start y → Contains found y
    complete all (step e) = f.first.next _ e
    complete all (more r e) = (all _ (complete all r)).next _ e

  Asked-Adds : (next found new : List Node) → Adds next found new → (x : Node) → Asked found x → Asked new x
  Asked-Adds next found new a x h = record { next = λ y e. a.keeps y (h.next y e) }

  -- a turn of a loop that asks each of these nodes
  pub turn : (start d : Node) (found next new nodes : List Node) (i : ℕ) → i < length nodes → ((y : Node) → Contains nodes y → Contains found y) → Adds next found new → Lists (Edge (get_or nodes i d)) next → Found start found × All (Asked found) (take i nodes) → Found start new × All (Asked new) (take (i + 1) nodes)
  turn start d found next new nodes i l within a next_is h =
      let x = get_or nodes i d in
      let asked : All (Asked new) (take i nodes ++ x ∷ []) = All-push (Asked new) (take i nodes) x (All-weaker (Asked found) (Asked new) (Asked-Adds next found new a) (take i nodes) h.1) (record { next = λ y e. a.takes y (next_is.all y e) }) in
      (Found-more start found h.0 x next new (within x (Contains-get_or nodes i d l)) a next_is, rw (take_more nodes i d l) asked)

  -- a turn that skips the start, which was asked
  pub turn_skipped : (start d : Node) (found nodes : List Node) (i : ℕ) → i < length nodes → get_or nodes i d ≡ start → Found start found × All (Asked found) (take i nodes) → All (Asked found) (take (i + 1) nodes)
  turn_skipped start d found nodes i l e h =
      rw (take_more nodes i d l) (All-push (Asked found) (take i nodes) (get_or nodes i d) h.1 (subst (Asked found) (sym e) h.0.first))

-- what a search that is done has found
pub finished : (d : Direction) (pairs : List (Node × Node)) (start : Node) (found : List Node) → IsStrictlySortedBy node_cmp found → Found (IsNext d pairs) start found → ((x : Node) → Contains found x → Asked (IsNext d pairs) found x) → Lists (IsReached d pairs start) found
finished d pairs start found sorted f all = record {
  ascending = sorted;
  only = λ y i. IsReached-from d pairs start y (f.sound y i);
  all = λ y r. complete (IsNext d pairs) start found f all (from_IsReached d pairs start y r);
}
