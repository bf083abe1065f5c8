-- What a set of pairs leads to.
use Rattle.std.specs.Prelude.{◌≡◌, ◌↔◌, Bool, true, false, ◌&&◌, ◌||◌, List, [], ◌∷◌, Contains}
use Rattle.std.specs.List.Sorted.{IsStrictlySortedBy}
use Rattle.plant_trace.specs.Nodes.{node_cmp, node_eq}
use Rattle.plant_trace.specs.declared.direction.Direction.{Direction}
use Rattle.plant_trace.specs.declared.direction.Direction.TheVariants.{Forward, Back}
use Rattle.plant_trace.specs.declared.node.Node.{Node}

-- the least relation that holds each pair of `Edge`, and (a, c) whenever it holds (a, b) and (b, c) is in `Edge`
pub data Reach {X : Type 0} (Edge : X → X → Type 0) : X → X → Type 0 where
  step : {a b : X} → Edge a b → Reach Edge a b
  more : {a b c : X} → Reach Edge a b → Edge b c → Reach Edge a c

-- the pair (a, b) is one of the pairs
abbrev pub HasEdge : List (Node × Node) → Node → Node → Type 0
HasEdge pairs a b = Contains pairs (a, b)

-- b comes right after a in the direction
abbrev pub IsNext : Direction → List (Node × Node) → Node → Node → Type 0
IsNext Forward pairs a b = HasEdge pairs a b
IsNext Back pairs a b = HasEdge pairs b a

-- forward: what one or more edges lead to from the start; back: the same against the edges
abbrev pub IsReached : Direction → List (Node × Node) → Node → Node → Type 0
IsReached Forward pairs start y = Reach (HasEdge pairs) start y
IsReached Back pairs start y = Reach (HasEdge pairs) y start

-- no node reaches itself
abbrev pub IsAcyclic : List (Node × Node) → Type 0
IsAcyclic pairs = (x : Node) → Reach (HasEdge pairs) x x → ⊥

-- the list has the nodes with P and no others, each once, in order
pub record Lists (P : Node → Type 0) (nodes : List Node) : Type 0 where
  pub ascending : IsStrictlySortedBy node_cmp nodes
  pub only : (y : Node) → Contains nodes y → P y
  pub all : (y : Node) → P y → Contains nodes y

-- whether one or more pairs lead from a to b: those after the first do, or they lead up to where the first begins and
-- on from where it ends
unfoldable pub leads : List (Node × Node) → Node → Node → Bool
leads [] a b = false
leads (p ∷ ps) a b = leads ps a b || ((node_eq a p.0 || leads ps a p.0) && (node_eq p.1 b || leads ps p.1 b))

-- they do exactly where the least relation holds
abbrev pub LeadsWhereReached : Type 0
LeadsWhereReached = (pairs : List (Node × Node)) (a b : Node) → (leads pairs a b ≡ true) ↔ Reach (HasEdge pairs) a b
