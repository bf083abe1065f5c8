-- Lists of nodes in order.
use Rattle.std.proofs.Common.{◌≡◌, Bool, true, false, List, refl, sym, BTreeSet}
use Rattle.std.proofs.lemmas.Map.Lookups.{btree_set_from_contains}
use Rattle.plant_trace.specs.{Lists, node_total}
use Rattle.plant_trace.specs.declared.node.Node.{Node}
use Rattle.plant_trace.proofs.NodeOrder.{node_exact}
use Rattle.plant_trace.proofs.NodeSets.{has_iff}

abbrev pub set_of : List Node → BTreeSet Node
set_of nodes = record { keys = nodes }

same_test : (a b : Bool) → (a ≡ true → b ≡ true) → (b ≡ true → a ≡ true) → a ≡ b
same_test true b f g = sym (f refl)
same_test false true f g = g refl
same_test false false f g = refl

-- there is one list of the nodes with P
pub Lists-unique : (P : Node → Type 0) (xs ys : List Node) → Lists P xs → Lists P ys → xs ≡ ys
Lists-unique P xs ys a b =
    btree_set_from_contains node_total (set_of xs) (set_of ys) a.ascending b.ascending
    (λ y. same_test _ _
    (λ h. (has_iff (set_of ys) y).1 (b.all y (a.only y ((has_iff (set_of xs) y).0 h))))
    (λ h. (has_iff (set_of xs) y).1 (a.all y (b.only y ((has_iff (set_of ys) y).0 h)))))
    node_exact

-- a list of the nodes with P is one of those with Q, where these are the same nodes
pub Lists-same : (P Q : Node → Type 0) (nodes : List Node) → ((y : Node) → P y → Q y) → ((y : Node) → Q y → P y) → Lists P nodes → Lists Q nodes
Lists-same P Q nodes f g l = record {
  ascending = l.ascending;
  only = λ y h. f y (l.only y h);
  all = λ y h. l.all y (g y h);
}
