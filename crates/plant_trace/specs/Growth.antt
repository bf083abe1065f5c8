-- How a set of pairs grows with no cycle.
use Rattle.std.specs.Prelude.{◌≡◌, List, ◌++◌}
use Rattle.plant_trace.specs.Reach.{Reach, HasEdge, IsAcyclic}
use Rattle.plant_trace.specs.declared.node.Node.{Node}

-- each added pair leads into b, from another node, which b doesn't reach
pub record LeadsInto (b : Node) (pairs added : List (Node × Node)) : Type 0 where
  pub into : (x y : Node) → HasEdge added x y → y ≡ b
  pub apart : (x y : Node) → HasEdge added x y → x ≡ b → ⊥
  pub prefetch : (x y : Node) → HasEdge added x y → Reach (HasEdge pairs) b x → ⊥

-- no pair begins at b
abbrev pub IsEnd : Node → List (Node × Node) → Type 0
IsEnd b pairs = (y : Node) → HasEdge pairs b y → ⊥

-- pairs with no cycle have none with these added
abbrev pub KeepsAcyclic : List (Node × Node) → List (Node × Node) → Type 0
KeepsAcyclic pairs added = IsAcyclic pairs → IsAcyclic (pairs ++ added)

-- what leads into a node, and not from what the node reaches, makes no cycle
abbrev pub IntoKeepsAcyclic : Type 0
IntoKeepsAcyclic = (b : Node) (pairs added : List (Node × Node)) → LeadsInto b pairs added → KeepsAcyclic pairs added

-- what leads from other nodes into a node where nothing begins makes no cycle
abbrev pub NewKeepsAcyclic : Type 0
NewKeepsAcyclic = (b : Node) (pairs added : List (Node × Node)) → IsEnd b pairs → ((x y : Node) → HasEdge added x y → (y ≡ b) × (x ≡ b → ⊥)) → KeepsAcyclic pairs added
