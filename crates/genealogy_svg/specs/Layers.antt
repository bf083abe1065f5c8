-- Layers: a node is one to the right of the rightmost of those that lead to it, so that each edge leads to the right.
use Rattle.std.specs.Prelude.{◌≡◌, ℕ, ◌+◌, max, Bool, true, List, Some, IsSome, ⊤, All, fold}
use Rattle.std.specs.BTreeMap.{BTreeMap, get}
use Rattle.std.specs.List.{list_any}
use Rattle.grouped_rows.specs.{rows_of}
use Rattle.genealogy_svg.specs.declared.model.PictureEdge.{PictureEdge}
use Rattle.genealogy_svg.specs.declared.drawing.LayoutFault.{LayoutFault}
use Rattle.genealogy_svg.specs.declared.drawing.LayoutFault.TheVariants as fault
use Rattle.plant_trace.specs.{node_cmp, node_eq, rank_of, Node}
use Rattle.plant_trace.specs.Reach.{Reach}

-- the edges that lead to a node
abbrev pub edges_to : List PictureEdge → Node → List PictureEdge
edges_to edges v = rows_of node_cmp (λ e. Some e.to) edges v

-- one of the edges leads from u to v
abbrev pub leads : List PictureEdge → Node → Node → Bool
leads edges u v = list_any (λ e. node_eq e.from u) (edges_to edges v)

abbrev pub Leads : List PictureEdge → Node → Node → Type 0
Leads edges u v = leads edges u v ≡ true

-- some node leads to itself, along one or more edges
abbrev pub HasCircle : List PictureEdge → Type 0
HasCircle edges = (v : Node) × Reach (Leads edges) v v

-- no node is reported as lost
abbrev pub HasNode : LayoutFault → Type 0
HasNode fault.Circle = ⊤
HasNode (fault.Lost node) = ⊥
HasNode fault.Memory = ⊤

-- one more than the highest layer of the nodes where edges begin, 0 where there is no edge
abbrev pub height : (Node → ℕ) → List PictureEdge → ℕ
height layer edges = fold (λ highest e. max highest (layer e.from + 1)) 0 edges

-- the node has its layer
abbrev pub IsLayered : BTreeMap Node ℕ → Node → Type 0
IsLayered layers v = IsSome (get node_cmp layers v)

-- each node that has a layer is one to the right of the rightmost of those that lead to it, all of which have theirs
pub record AreSettled (edges : List PictureEdge) (layers : BTreeMap Node ℕ) : Type 0 where
  pub highest : (v : Node) → IsLayered layers v → rank_of layers v ≡ height (rank_of layers) (edges_to edges v)
  pub before : (v : Node) → IsLayered layers v → All (λ e. IsLayered layers e.from) (edges_to edges v)
