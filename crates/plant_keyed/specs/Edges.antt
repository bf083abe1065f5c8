-- The edges that begin at a node, as a direction sees them.
use Rattle.std.specs.Prelude.{◌≡◌, ◌⊎◌, ◌↔◌, ◌==◌, ◌&&◌, ℕ, Bool, List, Option, Some, Contains, IsSortedByKey}
use Rattle.plant_base.specs.{edge_kind_number, same, EdgeKind, EdgeRow}
use Rattle.plant_trace.specs.{node_cmp, turned, Direction, Node}
use Rattle.plant_trace.specs.declared.direction.Direction.TheVariants.{Forward, Back}
use Rattle.plant_trace.specs.declared.node.Node.TheVariants as node
use Rattle.plant_view.specs.{ends_of}

-- the id at which the edge begins, as the direction sees it
abbrev pub near_id : Direction → EdgeRow → List ℕ
near_id Forward e = e.from
near_id Back e = e.to

-- the edge is of this kind and begins at this id
abbrev pub begins_at : Direction → EdgeKind → List ℕ → EdgeRow → Bool
begins_at d kind id e = edge_kind_number e.kind == edge_kind_number kind && same (near_id d e) id

abbrev pub id_of : Node → List ℕ
id_of (node.Lot id) = id
id_of (node.Batch id) = id

-- each edge that begins at the node is of the first kind, or of the second where there is one
abbrev pub AreKindsAt : Direction → Node → EdgeKind × Option EdgeKind → Type 0
AreKindsAt d x kinds = (e : EdgeRow) → (turned d (ends_of e)).0 ≡ x → (e.kind ≡ kinds.0) ⊎ (Some e.kind ≡ kinds.1)

-- Some of all edges: every one of them that begins at the node, as the direction sees it, and none that isn't one of all.
pub record HasEdgesAt (d : Direction) (x : Node) (all some : List (Node × Node)) : Type 0 where
  pub only : (e : Node × Node) → Contains some e → Contains all e
  pub each : (e : Node × Node) → Contains all e → (turned d e).0 ≡ x → Contains some e

-- the links are the pairs, each with its near end first, as the direction sees it
abbrev pub AreTurned : Direction → List (Node × Node) → List (Node × Node) → Type 0
AreTurned d pairs links = (p : Node × Node) → Contains pairs p ↔ Contains links (turned d p)

-- they are in the order of their near ends
abbrev pub Ascend : List (Node × Node) → Type 0
Ascend links = IsSortedByKey (λ (l : Node × Node). l.0) node_cmp links
