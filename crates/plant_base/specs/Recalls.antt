-- Recalls, and the marks that the desk keeps of what they reach.
use Rattle.std.specs.Prelude.{◌≡◌, ℕ, Bool, ◌&&◌, is_none, refl, Some}
use Rattle.std.proofs.Common.{◌∙◌, sym, ap}
use Rattle.std.specs.Cmp.{IsTotalOrder, IsPartialOrder, po}
use Rattle.std.specs.Cmp.Lexicographic.{nat_list_cmp_total, texts_ties}
use Rattle.std.specs.Ordering.{nat_cmp, ordering_then, is_eq}
use Rattle.std.specs.declared.cmp.Ordering.{Ordering}
use Rattle.std.specs.declared.cmp.Ordering.TheVariants.{Less, Equal, Greater}
use Rattle.std.proofs.lemmas.Cmp.{then_total, on_total, nat_cmp_total}
use Rattle.plant_base.specs.PlantState.{id_cmp}
use Rattle.plant_base.specs.contracts.rows.MarkKindPartialEq.TheImpl.{ghosts as equal_kind}
use Rattle.plant_base.specs.contracts.rows.MarkPartialEq.TheImpl.{ghosts as equal}
use Rattle.plant_base.specs.declared.rows.Recall.{Recall}
use Rattle.plant_base.specs.declared.rows.Mark.{Mark}
use Rattle.plant_base.specs.declared.rows.MarkKind.{MarkKind}
use Rattle.plant_base.specs.declared.rows.MarkKind.TheVariants as kind

abbrev pub is_open : Recall → Bool
is_open r = is_none r.lifting

abbrev pub mark_kind_number : MarkKind → ℕ
mark_kind_number kind.Lot = 1
mark_kind_number kind.Batch = 2

-- by the recall, then by the kind, then by the id
abbrev pub mark_order : Mark → Mark → Ordering
mark_order a b = ordering_then (id_cmp a.recall b.recall) (ordering_then (nat_cmp (mark_kind_number a.kind) (mark_kind_number b.kind)) (id_cmp a.id b.id))

-- as `==` of `Mark` says
abbrev pub mark_eq : Mark → Mark → Bool
mark_eq = equal.eq

-- ---- the laws of the order

pub mark_total : IsTotalOrder mark_order
mark_total = then_total (on_total (λ m. m.recall) nat_list_cmp_total) (then_total (on_total (λ m. mark_kind_number m.kind) nat_cmp_total) (on_total (λ m. m.id) nat_list_cmp_total))

both_equal : (o p : Ordering) → is_eq (ordering_then o p) ≡ (is_eq o && is_eq p)
both_equal Less p = refl
both_equal Equal p = refl
both_equal Greater p = refl

kind_ties : (k j : MarkKind) → equal_kind.eq k j ≡ is_eq (nat_cmp (mark_kind_number k) (mark_kind_number j))
kind_ties kind.Lot kind.Lot = refl
kind_ties kind.Lot kind.Batch = refl
kind_ties kind.Batch kind.Lot = refl
kind_ties kind.Batch kind.Batch = refl

pub mark_ties : (x y : Mark) → mark_eq x y ≡ is_eq (mark_order x y)
mark_ties x y =
    let kinds = nat_cmp (mark_kind_number x.kind) (mark_kind_number y.kind) in
    (λ i. texts_ties x.recall y.recall i && (kind_ties x.kind y.kind i && texts_ties x.id y.id i))
    ∙ sym (both_equal (id_cmp x.recall y.recall) (ordering_then kinds (id_cmp x.id y.id)) ∙ ap (λ b. is_eq (id_cmp x.recall y.recall) && b) (both_equal kinds (id_cmp x.id y.id)))

pub mark_partial : IsPartialOrder mark_eq (λ x y. Some (mark_order x y))
mark_partial = po mark_total mark_ties
