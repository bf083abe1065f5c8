-- Nodes, their words and their order.
use Rattle.std.specs.Prelude.{◌≡◌, ℕ, List, ◌++◌, Bool, codes, refl, Some}
use Rattle.std.specs.Cmp.{IsTotalOrder, IsPartialOrder, po}
use Rattle.std.specs.Cmp.Lexicographic.{slice_cmp, nat_list_cmp_total, texts_ties}
use Rattle.std.specs.Ordering.{is_eq, nat_cmp, ordering_reverse}
use Rattle.std.specs.declared.cmp.Ordering.{Ordering}
use Rattle.std.specs.declared.cmp.Ordering.TheVariants.{Less, Equal, Greater}
use Rattle.plant_trace.specs.contracts.node.NodePartialEq.TheImpl.{ghosts as equal}
use Rattle.plant_trace.specs.declared.node.Node.{Node}
use Rattle.plant_trace.specs.declared.node.Node.TheVariants.{Lot, Batch}

abbrev pub node_text : Node → List ℕ
node_text (Lot id) = codes "lot " ++ id
node_text (Batch id) = codes "batch " ++ id

-- lots before batches, and those of one kind by the bytes of their ids
abbrev pub node_cmp : Node → Node → Ordering
node_cmp (Lot a) (Lot b) = slice_cmp nat_cmp a b
node_cmp (Lot a) (Batch b) = Less
node_cmp (Batch a) (Lot b) = Greater
node_cmp (Batch a) (Batch b) = slice_cmp nat_cmp a b

-- as `==` of `Node` says
abbrev pub node_eq : Node → Node → Bool
node_eq = equal.eq

-- ---- the laws of the order

pub node_ties : (x y : Node) → node_eq x y ≡ is_eq (node_cmp x y)
node_ties (Lot a) (Lot b) = texts_ties a b
node_ties (Lot a) (Batch b) = refl
node_ties (Batch a) (Lot b) = refl
node_ties (Batch a) (Batch b) = texts_ties a b

pub node_total : IsTotalOrder node_cmp
node_total = record { antisymm = antisymm; trans = trans; congr = congr }
  where
    antisymm : (x y : Node) → node_cmp x y ≡ ordering_reverse (node_cmp y x)
    antisymm (Lot a) (Lot b) = nat_list_cmp_total.antisymm a b
    antisymm (Lot a) (Batch b) = refl
    antisymm (Batch a) (Lot b) = refl
    antisymm (Batch a) (Batch b) = nat_list_cmp_total.antisymm a b

    trans : (x y z : Node) → node_cmp x y ≡ Less → node_cmp y z ≡ Less → node_cmp x z ≡ Less
    trans (Lot a) (Lot b) (Lot c) p q = nat_list_cmp_total.trans a b c p q
    trans (Lot a) (Lot b) (Batch c) p q = refl
    trans (Lot a) (Batch b) (Lot c) p q = cc
    trans (Lot a) (Batch b) (Batch c) p q = refl
    trans (Batch a) (Lot b) z p q = cc
    trans (Batch a) (Batch b) (Lot c) p q = q
    trans (Batch a) (Batch b) (Batch c) p q = nat_list_cmp_total.trans a b c p q

    congr : (x y z : Node) → node_cmp x y ≡ Equal → node_cmp x z ≡ node_cmp y z
    congr (Lot a) (Lot b) (Lot c) p = nat_list_cmp_total.congr a b c p
    congr (Lot a) (Lot b) (Batch c) p = refl
    congr (Lot a) (Batch b) z p = cc
    congr (Batch a) (Lot b) z p = cc
    congr (Batch a) (Batch b) (Lot c) p = refl
    congr (Batch a) (Batch b) (Batch c) p = nat_list_cmp_total.congr a b c p

pub node_partial : IsPartialOrder node_eq (λ x y. Some (node_cmp x y))
node_partial = po node_total node_ties
