-- Maps from a node to the set of the nodes next to it.
use Rattle.std.specs.Prelude.{◌≡◌, Bool, false, ◌&&◌, ◌||◌, List, Option, Some, None}
use Rattle.std.specs.List.{list_any}
use Rattle.std.specs.BTreeMap.{BTreeMap, get}
use Rattle.std.specs.BTreeSet.{BTreeSet, contains}
use Rattle.plant_trace.specs.Nodes.{node_cmp, node_eq}
use Rattle.plant_trace.specs.Turned.{turned}
use Rattle.plant_trace.specs.declared.direction.Direction.{Direction}
use Rattle.plant_trace.specs.declared.node.Node.{Node}

-- whether there is a set and it has the node
abbrev pub set_has : Option (BTreeSet Node) → Node → Bool
set_has None y = false
set_has (Some s) y = contains node_cmp s y

-- whether the set at x has y
abbrev pub index_has : BTreeMap Node (BTreeSet Node) → Node → Node → Bool
index_has index x y = set_has (get node_cmp index x) y

-- whether a pair is (x, y)
abbrev pub is_pair : Node → Node → Node × Node → Bool
is_pair x y p = node_eq p.0 x && node_eq p.1 y

-- whether some pair leads from x to y, as the direction sees it
abbrev pub pairs_lead : Direction → List (Node × Node) → Node → Node → Bool
pairs_lead d pairs x y = list_any (λ p. is_pair x y (turned d p)) pairs

-- the index has what the pairs lead to
abbrev pub Indexes : Direction → List (Node × Node) → BTreeMap Node (BTreeSet Node) → Type 0
Indexes d pairs index = (x y : Node) → index_has index x y ≡ pairs_lead d pairs x y

-- y was added to the set at x
abbrev pub Links : BTreeMap Node (BTreeSet Node) → BTreeMap Node (BTreeSet Node) → Node → Node → Type 0
Links old new near far = (x y : Node) → index_has new x y ≡ (index_has old x y || is_pair x y (near, far))
