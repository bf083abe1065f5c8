-- Ranks of nodes that rise along pairs.
use Rattle.std.specs.Prelude.{ℕ, ◌<◌, List, All, unwrap_or}
use Rattle.std.specs.BTreeMap.{BTreeMap, get}
use Rattle.plant_trace.specs.Nodes.{node_cmp}
use Rattle.plant_trace.specs.declared.node.Node.{Node}

-- a node's position, and 0 where it has none
abbrev pub rank_of : BTreeMap Node ℕ → Node → ℕ
rank_of positions x = unwrap_or (get node_cmp positions x) 0

-- each pair leads from a lower rank to a higher one
abbrev pub Rises : (Node → ℕ) → List (Node × Node) → Type 0
Rises rank pairs = All (λ p. rank p.0 < rank p.1) pairs
