-- What a recall of a lot reaches.
use Rattle.std.specs.Prelude.{◌≡◌, ◌⊎◌, ℕ, Bool, true, ◌||◌, ◌↔◌, List, [], ◌∷◌, ◌++◌}
use Rattle.plant_trace.specs.Growth.{IsEnd}
use Rattle.plant_trace.specs.Nodes.{node_eq}
use Rattle.plant_trace.specs.Reach.{Reach, HasEdge, leads}
use Rattle.plant_trace.specs.declared.node.Node.{Node}
use Rattle.plant_trace.specs.declared.node.Node.TheVariants.{Lot}

-- the lot itself, and what one or more edges lead to from it
abbrev pub IsRecalled : List (Node × Node) → List ℕ → Node → Type 0
IsRecalled pairs lot y = (y ≡ Lot lot) ⊎ Reach (HasEdge pairs) (Lot lot) y

-- the same as a test
abbrev pub is_recalled : List (Node × Node) → List ℕ → Node → Bool
is_recalled pairs lot y = node_eq y (Lot lot) || leads pairs (Lot lot) y

abbrev pub RecalledWhereReached : Type 0
RecalledWhereReached = (pairs : List (Node × Node)) (lot : List ℕ) (y : Node) → (is_recalled pairs lot y ≡ true) ↔ IsRecalled pairs lot y

-- ---- pairs that are added

-- none of the added pairs begins at what the recall reaches
abbrev pub ReachesNone : List (Node × Node) → List (Node × Node) → List ℕ → Type 0
ReachesNone pairs added lot = (x y : Node) → HasEdge added x y → IsRecalled pairs lot x → ⊥

-- pairs that begin at what a recall doesn't reach leave what it reaches
abbrev pub StaysWhereUnreached : Type 0
StaysWhereUnreached = (pairs added : List (Node × Node)) (lot : List ℕ) → ReachesNone pairs added lot → (y : Node) → IsRecalled (pairs ++ added) lot y ↔ IsRecalled pairs lot y

-- a pair that leads to a node where nothing begins adds that node, where its first end is reached, and nothing else
abbrev pub GrowsByNew : Type 0
GrowsByNew = (pairs : List (Node × Node)) (lot : List ℕ) (a b : Node) → IsEnd b pairs → (a ≡ b → ⊥) → (y : Node) → IsRecalled (pairs ++ (a, b) ∷ []) lot y ↔ (IsRecalled pairs lot y ⊎ ((y ≡ b) × IsRecalled pairs lot a))
