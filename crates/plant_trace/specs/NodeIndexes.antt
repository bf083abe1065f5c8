-- Positions of nodes in a list.
use Rattle.std.specs.Prelude.{◌≡◌, ◌<◌, ℕ, List, ◌++◌, Contains, Some, IsSome, slice_get}
use Rattle.std.specs.BTreeMap.{BTreeMap, get, btree_map_len}
use Rattle.plant_trace.specs.Nodes.{node_cmp}
use Rattle.plant_trace.specs.Reach.{HasEdge, IsAcyclic}
use Rattle.plant_trace.specs.Ranks.{rank_of, Rises}
use Rattle.plant_trace.specs.Waiting.{IsMentioned}
use Rattle.plant_trace.specs.declared.node.Node.{Node}

-- each node of the list has a position, and the list has there each node that has one
pub record AreIndexes (nodes : List Node) (positions : BTreeMap Node ℕ) : Type 0 where
  pub found : (x : Node) → Contains nodes x → IsSome (get node_cmp positions x)
  pub there : (x : Node) (n : ℕ) → get node_cmp positions x ≡ Some n → slice_get nodes n ≡ Some x

-- no pair leads to the node
abbrev pub IsUnled : List (Node × Node) → Node → Type 0
IsUnled pairs x = (w : Node) → HasEdge pairs w x → ⊥

-- the list has each node at which a pair begins and to which none leads
abbrev pub HasFirst : List (Node × Node) → List Node → Type 0
HasFirst pairs nodes = (x y : Node) → HasEdge pairs x y → IsUnled pairs x → Contains nodes x

-- the positions are those of a list of nodes, each first one among them
abbrev pub ArePositions : List (Node × Node) → BTreeMap Node ℕ → Type 0
ArePositions pairs positions = (nodes : List Node) × HasFirst pairs nodes × AreIndexes nodes positions

-- the list got more at its end, or nothing
abbrev pub Grows : List Node → List Node → Type 0
Grows old new = (more : List Node) × (new ≡ old ++ more)

-- the positions are the numbers below that of the nodes which have one: each is of one node, an end of a pair
pub record IsNumbering (pairs : List (Node × Node)) (positions : BTreeMap Node ℕ) : Type 0 where
  pub below : (x : Node) (n : ℕ) → get node_cmp positions x ≡ Some n → n < btree_map_len positions
  pub apart : (x y : Node) (n : ℕ) → get node_cmp positions x ≡ Some n → get node_cmp positions y ≡ Some n → x ≡ y
  pub only : (x : Node) → IsSome (get node_cmp positions x) → IsMentioned pairs x

-- each pair leads to a later position, where no node reaches itself
abbrev pub RiseIfAcyclic : List (Node × Node) → BTreeMap Node ℕ → Type 0
RiseIfAcyclic pairs positions = IsAcyclic pairs → Rises (rank_of positions) pairs
