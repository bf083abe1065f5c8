-- What recalls reach, and the marks that tables keep of it.
use Rattle.std.specs.Prelude.{◌≡◌, ◌==◌, ℕ, Bool, true, not, ◌&&◌, if◌then◌else◌, nat_le, List, [], ◌∷◌, map, filter, length, Contains, flat_map}
use Rattle.plant_base.specs.{is_open, mark_kind_number, mark_order, State, same, Mark, MarkKind, Movement, Recall}
use Rattle.plant_base.specs.declared.rows.MarkKind.TheVariants as kind
use Rattle.plant_trace.specs.{leads, IsRecalled, is_recalled, Node}
use Rattle.plant_trace.specs.declared.node.Node.TheVariants as node
use Rattle.plant_view.specs.Genealogy.{edges_among, edges_of}
use Rattle.plant_view.specs.Rows.{put_all}

-- a recall's mark on a node
abbrev pub mark_on : List ℕ → Node → Mark
mark_on recall (node.Lot id) = record { recall = recall; kind = kind.Lot; id = id }
mark_on recall (node.Batch id) = record { recall = recall; kind = kind.Batch; id = id }

abbrev pub node_at : MarkKind → List ℕ → Node
node_at kind.Lot id = node.Lot id
node_at kind.Batch id = node.Batch id

abbrev pub node_of : Mark → Node
node_of m = node_at m.kind m.id

-- ---- marks

-- the lot, and each end of a pair that it leads to
abbrev pub nodes_from : List (Node × Node) → List ℕ → List Node
nodes_from pairs lot = node.Lot lot ∷ filter (leads pairs (node.Lot lot)) (map (λ p. p.1) pairs)

abbrev pub marks_of : List (Node × Node) → Recall → List Mark
marks_of pairs r = if is_open r then map (mark_on r.id) (nodes_from pairs r.lot) else []

-- the rows of all marks, in the order of their keys
unfoldable pub marks : List Recall → List (Node × Node) → List Mark
marks recalls pairs = put_all mark_order (flat_map (marks_of pairs) recalls) []

-- those in a schema that keeps them
abbrev pub marks_in : ℕ → List Recall → List Movement → List Mark
marks_in schema recalls movements = if nat_le 4 schema then marks recalls (edges_among movements) else []

abbrev pub recalls_in : ℕ → List Recall → List Recall
recalls_in schema recalls = if nat_le 4 schema then recalls else []

-- the marks but those of this recall
abbrev pub without_marks : List ℕ → List Mark → List Mark
without_marks recall ms = filter (λ m. not (same m.recall recall)) ms

-- ---- what is said of them

-- the recall is one of these, is open, and reaches the node
pub record Reaches (recalls : List Recall) (pairs : List (Node × Node)) (recall : List ℕ) (y : Node) : Type 0 where
  pub by : Recall
  pub listed : Contains recalls by
  pub unlifted : is_open by ≡ true
  pub named : by.id ≡ recall
  pub reaches : IsRecalled pairs by.lot y

-- the open recalls that reach a node
abbrev pub recalls_on : List Recall → List (Node × Node) → Node → List Recall
recalls_on recalls pairs y = filter (λ r. is_open r && is_recalled pairs r.lot y) recalls

-- their marks on it
abbrev pub marks_on : State → Node → List Mark
marks_on s y = map (λ r. mark_on r.id y) (recalls_on s.recalls (edges_of s) y)

-- an open recall reaches the lot
abbrev pub is_blocked : State → List ℕ → Bool
is_blocked s lot = nat_le 1 (length (marks_on s (node.Lot lot)))

-- the mark is on the lot or batch of this id
abbrev pub is_on : MarkKind → List ℕ → Mark → Bool
is_on k id m = mark_kind_number m.kind == mark_kind_number k && same m.id id
