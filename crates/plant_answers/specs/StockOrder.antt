-- Lots by their age: by the numbers of the bookings that made them, and by their ids.
use Rattle.std.specs.Prelude.{◌≡◌, Bool, ◌&&◌, Some, refl}
use Rattle.std.proofs.Common.{◌∙◌, sym, ap}
use Rattle.std.specs.Cmp.{IsTotalOrder, IsPartialOrder, po, unsigned_ties}
use Rattle.std.specs.Cmp.Lexicographic.{nat_list_cmp_total, texts_ties}
use Rattle.std.specs.Ordering.{nat_cmp, ordering_then, is_eq}
use Rattle.std.specs.declared.cmp.Ordering.{Ordering}
use Rattle.std.specs.declared.cmp.Ordering.TheVariants.{Less, Equal, Greater}
use Rattle.std.proofs.lemmas.Cmp.{then_total, on_total, nat_cmp_total}
use Rattle.plant_base.specs.{id_cmp}
use Rattle.plant_answers.specs.contracts.stock.AgedLotPartialEq.TheImpl.{ghosts as equal}
use Rattle.plant_answers.specs.declared.stock.AgedLot.{AgedLot}

-- by the number, by the id, and of lots of one id by the definition
abbrev pub stock_order : AgedLot → AgedLot → Ordering
stock_order a b = ordering_then (nat_cmp a.born b.born) (ordering_then (id_cmp a.lot.id b.lot.id) (id_cmp a.lot.def b.lot.def))

-- as `==` of `AgedLot` says
abbrev pub aged_eq : AgedLot → AgedLot → Bool
aged_eq = equal.eq

-- ---- the laws of the order

pub stock_total : IsTotalOrder stock_order
stock_total = then_total (on_total (λ a. a.born) nat_cmp_total) (then_total (on_total (λ a. a.lot.id) nat_list_cmp_total) (on_total (λ a. a.lot.def) nat_list_cmp_total))

both_equal : (o p : Ordering) → is_eq (ordering_then o p) ≡ (is_eq o && is_eq p)
both_equal Less p = refl
both_equal Equal p = refl
both_equal Greater p = refl

pub stock_ties : (x y : AgedLot) → aged_eq x y ≡ is_eq (stock_order x y)
stock_ties x y =
    let ids = id_cmp x.lot.id y.lot.id in
    (λ i. unsigned_ties x.born y.born i && (texts_ties x.lot.id y.lot.id i && texts_ties x.lot.def y.lot.def i))
    ∙ sym (both_equal (nat_cmp x.born y.born) (ordering_then ids (id_cmp x.lot.def y.lot.def)) ∙ ap (λ b. is_eq (nat_cmp x.born y.born) && b) (both_equal ids (id_cmp x.lot.def y.lot.def)))

pub stock_partial : IsPartialOrder aged_eq (λ x y. Some (stock_order x y))
stock_partial = po stock_total stock_ties
