-- Nodes that wait until each node that leads to them is taken.
use Rattle.std.specs.Prelude.{◌≡◌, ◌<◌, ◌⊎◌, ℕ, List, length, AllPairs, Contains, Option, Some, None}
use Rattle.std.specs.BTreeMap.{BTreeMap, get}
use Rattle.plant_trace.specs.Nodes.{node_cmp}
use Rattle.plant_trace.specs.Reach.{HasEdge}
use Rattle.plant_trace.specs.declared.node.Node.{Node}

-- no two of the nodes are the same
abbrev pub AreDistinct : List Node → Type 0
AreDistinct nodes = AllPairs (λ x y. x ≡ y → ⊥) nodes

-- a pair begins or ends at the node
abbrev pub IsMentioned : List (Node × Node) → Node → Type 0
IsMentioned pairs x = (y : Node) × (HasEdge pairs x y ⊎ HasEdge pairs y x)

-- so many nodes have P
pub record AreSoMany (P : Node → Type 0) (count : ℕ) : Type 0 where
  pub nodes : List Node
  pub distinct : AreDistinct nodes
  pub only : (y : Node) → Contains nodes y → P y
  pub all : (y : Node) → P y → Contains nodes y
  pub counted : count ≡ length nodes

-- w leads to x and isn't taken
abbrev pub Awaits : List (Node × Node) → List Node → Node → Node → Type 0
Awaits pairs taken x w = HasEdge pairs w x × (Contains taken w → ⊥)

-- each node that awaits others has a count of them, and each that awaits none is ready, at one position
pub record AreWaiting (awaits : Node → Node → Type 0) (IsNode : Node → Type 0) (left : BTreeMap Node ℕ) (ready : List Node) : Type 0 where
  pub distinct : AreDistinct ready
  pub apart : (x : Node) → Contains ready x → get node_cmp left x ≡ None
  pub free : (x w : Node) → Contains ready x → awaits x w → ⊥
  pub counted : (x : Node) (n : ℕ) → get node_cmp left x ≡ Some n → AreSoMany (awaits x) n × (0 < n)
  pub all : (x : Node) → IsNode x → get node_cmp left x ≡ None → Contains ready x
  pub only : (x : Node) → Contains ready x → IsNode x
  pub only_left : (x : Node) (n : ℕ) → get node_cmp left x ≡ Some n → IsNode x

-- x has this count now, or none, and every other node has what it had
abbrev pub HasCount : BTreeMap Node ℕ → BTreeMap Node ℕ → Node → Option ℕ → Type 0
HasCount old new x count = (get node_cmp new x ≡ count) × ((q : Node) → (q ≡ x → ⊥) → get node_cmp new q ≡ get node_cmp old q)

-- each count is what it was
abbrev pub HasCounts : BTreeMap Node ℕ → BTreeMap Node ℕ → Type 0
HasCounts old new = (q : Node) → get node_cmp new q ≡ get node_cmp old q
