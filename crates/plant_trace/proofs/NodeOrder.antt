-- The order of nodes.
use Rattle.std.proofs.Common.{◌≡◌, ◌∙◌, Bool, List, Contains, Decides, true, false, not, sym, subst, ap, is_eq}
use Rattle.std.specs.List.{IsAnyAnswer}
use Rattle.std.proofs.lemmas.List.Elements.{Decides-contains, contains_decides}
use Rattle.std.proofs.lemmas.Cmp.{tied_itself}
use Rattle.std.proofs.lemmas.Bool.{both_ways, not-true, not-false}
use Rattle.std.proofs.lemmas.Map.Lookups.{CmpEqualImpliesEq, exact_bytes}
use Rattle.std.proofs.lemmas.Map.Views.{tells_apart}
use Rattle.plant_trace.specs.contracts.node.NodePartialEq.TheImpl.{ghosts as equal}
use Rattle.plant_trace.specs.declared.node.Node.{Node}
use Rattle.plant_trace.specs.declared.node.Node.TheVariants.{Lot, Batch}
use Rattle.plant_trace.specs.{node_cmp, node_ties, node_total}

-- nodes that compare alike are one
pub node_exact : CmpEqualImpliesEq node_cmp
node_exact (Lot a) (Lot b) e = ap Lot (exact_bytes a b e)
node_exact (Lot a) (Batch b) e = cc
node_exact (Batch a) (Lot b) e = cc
node_exact (Batch a) (Batch b) e = ap Batch (exact_bytes a b e)

-- nodes that `==` calls equal are one
pub node_eq_exact : (a b : Node) → equal.eq a b ≡ true → a ≡ b
node_eq_exact a b e = tells_apart node_exact a b (sym (node_ties a b) ∙ e)

pub node_eq_itself : (a b : Node) → a ≡ b → equal.eq a b ≡ true
node_eq_itself a b e = subst (λ c. equal.eq a c ≡ true) e (node_ties a a ∙ ap is_eq (tied_itself node_total a))

pub node_eq_decides : (a b : Node) → Decides (equal.eq a b) (a ≡ b)
node_eq_decides a b = (node_eq_exact a b, node_eq_itself a b)

-- nodes that differ by `!=` are two
pub node_ne_exact : (a b : Node) → not (equal.eq a b) ≡ true → a ≡ b → ⊥
node_ne_exact a b n e = both_ways (equal.eq a b) (not-true (equal.eq a b) n) (node_eq_itself a b e)

pub node_not_ne : (a b : Node) → not (equal.eq a b) ≡ false → a ≡ b
node_not_ne a b n = node_eq_exact a b (not-false (equal.eq a b) n)

-- what `contains` of a slice answers
pub node_contains : (nodes : List Node) (node : Node) (r : Bool) → IsAnyAnswer (λ y t. equal.eq y node ≡ t) nodes r → Decides r (Contains nodes node)
node_contains nodes node r h = Decides-contains nodes node r (contains_decides equal.eq node_eq_decides nodes node r h)
