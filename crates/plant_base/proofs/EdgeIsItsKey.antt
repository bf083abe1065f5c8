-- Edges with equal keys are equal: an edge is all key.
use Rattle.std.proofs.Common.{◌≡◌, ◌∙◌, ℕ, List, refl, ap, nat_cmp, is_eq, Ordering, Less, Equal, Greater}
use Rattle.std.specs.Cmp.Lexicographic.{texts_ties}
use Rattle.std.specs.Ordering.{ordering_then}
use Rattle.plant_base.specs.{edge_kind_number, edge_order, id_cmp}
use Rattle.plant_base.specs.declared.rows.EdgeRow.{EdgeRow}
use Rattle.plant_base.specs.declared.rows.EdgeKind.{EdgeKind}
use Rattle.plant_base.specs.declared.rows.EdgeKind.TheVariants.{LotToBatch, BatchToLot, LotToLot}
use Rattle.plant_base.proofs.KeyOrders.{same_id}

first_tied : (o p : Ordering) → ordering_then o p ≡ Equal → o ≡ Equal
first_tied Less p e = absurd cc
first_tied Equal p e = refl
first_tied Greater p e = absurd cc

then_tied : (o p : Ordering) → ordering_then o p ≡ Equal → p ≡ Equal
then_tied Less p e = absurd cc
then_tied Equal p e = e
then_tied Greater p e = absurd cc

one_kind : (k j : EdgeKind) → nat_cmp (edge_kind_number k) (edge_kind_number j) ≡ Equal → k ≡ j
one_kind LotToBatch LotToBatch e = refl
one_kind LotToBatch BatchToLot e = absurd cc
one_kind LotToBatch LotToLot e = absurd cc
one_kind BatchToLot LotToBatch e = absurd cc
one_kind BatchToLot BatchToLot e = refl
one_kind BatchToLot LotToLot e = absurd cc
one_kind LotToLot LotToBatch e = absurd cc
one_kind LotToLot BatchToLot e = absurd cc
one_kind LotToLot LotToLot e = refl

one_id : (a b : List ℕ) → id_cmp a b ≡ Equal → a ≡ b
one_id a b e = same_id a b (texts_ties a b ∙ ap is_eq e)

-- two edges of one key are one
pub one_edge : (x y : EdgeRow) → edge_order x y ≡ Equal → x ≡ y
one_edge x y e =
    let kinds = nat_cmp (edge_kind_number x.kind) (edge_kind_number y.kind) in
    let ends = ordering_then (id_cmp x.from y.from) (id_cmp x.to y.to) in
    let tied = then_tied kinds ends e in
    let kind = one_kind x.kind y.kind (first_tied kinds ends e) in
    let from = one_id x.from y.from (first_tied (id_cmp x.from y.from) (id_cmp x.to y.to) tied) in
    let to = one_id x.to y.to (then_tied (id_cmp x.from y.from) (id_cmp x.to y.to) tied) in
    λ i. record { kind = kind i; from = from i; to = to i }
