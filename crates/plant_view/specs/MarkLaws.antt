-- What the marks are, and what commands do to them.
use Rattle.std.specs.Prelude.{◌≡◌, ◌↔◌, ℕ, true, false, not, List, [], ◌∷◌, ◌++◌, map, filter, Contains}
use Rattle.std.specs.List.{AllByRecursion}
use Rattle.std.specs.List.Sorted.{IsStrictlySortedBy}
use Rattle.plant_base.specs.{same, put, recall_order, mark_order, is_open, Mark, MarkKind, Recall}
use Rattle.plant_trace.specs.{IsEnd, Lists, IsRecalled, ReachesNone, Node}
use Rattle.plant_view.specs.Recalls.{node_at, is_on, marks, mark_on, node_of, recalls_on, Reaches}
use Rattle.plant_view.specs.Rows.{put_all}

-- the marks are the pairs of an open recall and a node that it reaches, each once
abbrev pub AreThePairs : Type 0
AreThePairs = (recalls : List Recall) (pairs : List (Node × Node)) → IsStrictlySortedBy mark_order (marks recalls pairs) × ((m : Mark) → Contains (marks recalls pairs) m ↔ Reaches recalls pairs m.recall (node_of m))

-- edges that begin at nothing marked leave the marks
abbrev pub StayWhereUnreached : Type 0
StayWhereUnreached = (recalls : List Recall) (pairs added : List (Node × Node)) → AllByRecursion (λ r. is_open r ≡ true → ReachesNone pairs added r.lot) recalls → marks recalls (pairs ++ added) ≡ marks recalls pairs

-- an edge into a new node marks it by the recalls that reach where the edge begins
abbrev pub GrowByProduct : Type 0
GrowByProduct = (recalls : List Recall) (pairs : List (Node × Node)) (a b : Node) → IsEnd b pairs → (a ≡ b → ⊥) → marks recalls (pairs ++ (a, b) ∷ []) ≡ put_all mark_order (map (λ r. mark_on r.id b) (recalls_on recalls pairs a)) (marks recalls pairs)

-- a recall under a new id marks all that it reaches
abbrev pub ComeWithRecall : Type 0
ComeWithRecall = (recalls : List Recall) (pairs : List (Node × Node)) (r : Recall) (nodes : List Node) → AllByRecursion (λ q. same q.id r.id ≡ false) recalls → is_open r ≡ true → Lists (IsRecalled pairs r.lot) nodes → marks (put recall_order r recalls) pairs ≡ put_all mark_order (map (mark_on r.id) nodes) (marks recalls pairs)

-- a recall that is lifted has no marks, and the others have theirs
abbrev pub GoWithLift : Type 0
GoWithLift = (recalls : List Recall) (pairs : List (Node × Node)) (r : Recall) → IsStrictlySortedBy recall_order recalls → is_open r ≡ false → marks (put recall_order r recalls) pairs ≡ filter (λ m. not (same m.recall r.id)) (marks recalls pairs)

-- the marks on a node are those of the open recalls that reach it
abbrev pub AreOnNode : Type 0
AreOnNode = (recalls : List Recall) (pairs : List (Node × Node)) (k : MarkKind) (id : List ℕ) → IsStrictlySortedBy recall_order recalls → filter (is_on k id) (marks recalls pairs) ≡ map (λ r. mark_on r.id (node_at k id)) (recalls_on recalls pairs (node_at k id))
