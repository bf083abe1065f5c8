-- Rows that are put in the order of their key, and rows that are put in a database.
use Rattle.std.proofs.Common.{◌≡◌, refl, ap, subst, ◌∙◌, List, Bool, [], ◌∷◌, ◌++◌, false, not, map, filter, append-nil, IsPermutation, is_eq, Ordering, Less, Equal, Greater}
use Rattle.std.proofs.lemmas.List.{map-append}
use Rattle.std.specs.List.{AllByRecursion}
use Rattle.std.specs.List.Sorted.{IsStrictlySortedBy}
use Rattle.std.specs.Cmp.{IsTotalOrder}
use Rattle.std.specs.Ordering.{match_ordering}
use Rattle.std.proofs.lemmas.List.Sorted.{IsPermutation-refl, IsPermutation-trans, IsPermutation-sym, IsPermutation-cons, IsPermutation-middle}
use Rattle.sqlite_value.specs.Order.{Row}
use Rattle.plant_base.specs.{put}
use Rattle.plant_view.proofs.ListLemmas.{all_weaker}
use Rattle.sql_tables.specs.{TableDef, meets}
use Rattle.sql_tables.specs.Rows as rows

module _ {R : Type 0} (enc : R → Row) (table_def : TableDef) (r : R) where
  abbrev apart : Row → Bool
  apart v = not (meets table_def v (enc r))

  all_apart : (xs : List R) → AllByRecursion (λ x. meets table_def (enc x) (enc r) ≡ false) xs → filter apart (map enc xs) ≡ map enc xs
  all_apart [] none = refl
  all_apart (x ∷ xs) none = rw (none.0, all_apart xs none.1) refl

  swapped : (v w : Row) (xs : List Row) → IsPermutation (v ∷ w ∷ xs) (w ∷ v ∷ xs)
  swapped v w xs = IsPermutation-sym _ _ (IsPermutation-middle (w ∷ []) v xs)

  -- a row whose key no row has
  pub put_at_end : (xs : List R) → AllByRecursion (λ x. meets table_def (enc x) (enc r) ≡ false) xs → IsPermutation (rows.put table_def (enc r) (map enc xs)) (map enc (xs ++ r ∷ []))
  put_at_end xs none =
      let moved : IsPermutation (map enc xs ++ enc r ∷ []) (enc r ∷ (map enc xs ++ [])) = IsPermutation-middle (map enc xs) (enc r) [] in
      let turned : IsPermutation (enc r ∷ map enc xs) (map enc xs ++ enc r ∷ []) = IsPermutation-sym _ _ (subst (λ l. IsPermutation (map enc xs ++ enc r ∷ []) (enc r ∷ l)) (append-nil (map enc xs)) moved) in
      rw (all_apart xs none, map-append) turned

  module _ (order : R → R → Ordering) (total : IsTotalOrder order) where
    none_meets : (xs : List R) → AllByRecursion (λ x. meets table_def (enc x) (enc r) ≡ is_eq (order r x)) xs → AllByRecursion (λ x. order r x ≡ Less) xs → AllByRecursion (λ x. meets table_def (enc x) (enc r) ≡ false) xs
    none_meets [] ties below = tt
    none_meets (x ∷ xs) ties below = (ties.0 ∙ ap is_eq below.0, none_meets xs ties.1 below.1)

    by_order : (x : R) (xs : List R) → AllByRecursion (λ y. order x y ≡ Less) xs → meets table_def (enc x) (enc r) ≡ is_eq (order r x) → AllByRecursion (λ y. meets table_def (enc y) (enc r) ≡ is_eq (order r y)) xs
        → IsPermutation (enc r ∷ filter apart (map enc xs)) (map enc (put order r xs))
        → (o : Ordering) → order r x ≡ o → IsPermutation (enc r ∷ filter apart (enc x ∷ map enc xs)) (map enc (match_ordering o (r ∷ x ∷ xs) (r ∷ xs) (x ∷ put order r xs)))
    by_order x xs above tie ties more Less l =
        let below = all_weaker _ (λ y. order r y ≡ Less) (λ y less. total.trans r x y l less) xs above in
        rw (tie ∙ ap is_eq l, all_apart xs (none_meets xs ties below)) (IsPermutation-refl _)
    by_order x xs above tie ties more Equal l =
        let below = all_weaker _ (λ y. order r y ≡ Less) (λ y less. total.congr r x y l ∙ less) xs above in
        rw (tie ∙ ap is_eq l, all_apart xs (none_meets xs ties below)) (IsPermutation-refl _)
    by_order x xs above tie ties more Greater l =
        rw (tie ∙ ap is_eq l) (IsPermutation-trans _ _ _ (swapped (enc r) (enc x) (filter apart (map enc xs))) (IsPermutation-cons (enc x) _ _ more))

    -- a row that replaces the one with its key
    pub put_by_key : (xs : List R) → IsStrictlySortedBy order xs → AllByRecursion (λ x. meets table_def (enc x) (enc r) ≡ is_eq (order r x)) xs → IsPermutation (rows.put table_def (enc r) (map enc xs)) (map enc (put order r xs))
    unfolding IsStrictlySortedBy
    put_by_key [] sorted ties = IsPermutation-refl _
    put_by_key (x ∷ xs) sorted ties = by_order x xs sorted.0 ties.0 ties.1 (put_by_key xs sorted.1 ties.1) (order r x) refl
