-- Rows that are sorted, each kept once, are those that are put one after the other.
use Rattle.std.proofs.Common.{◌≡◌, ◌∙◌, Bool, true, false, cond, List, [], ◌∷◌, refl, sym, ap, ◌||◌, BTreeSet, IsPermutation, IsSorted, is_eq, Ordering, Less, Equal, Greater}
use Rattle.std.specs.BTreeMap.{is_at}
use Rattle.std.specs.Cmp.{IsTotalOrder}
use Rattle.std.specs.List.{list_any, dedup, dedup_from}
use Rattle.std.specs.List.Sorted.{IsStrictlySortedBy}
use Rattle.std.specs.Ordering.{match_ordering}
use Rattle.std.proofs.lemmas.List.Kept.{IsStrictlySortedBy-dedup}
use Rattle.std.proofs.lemmas.List.Sorted.{list_any-IsPermutation}
use Rattle.std.proofs.lemmas.Map.Lookups.{CmpEqualImpliesEq, btree_set_from_contains}
use Rattle.plant_base.specs.{put}
use Rattle.plant_view.specs.{put_all}
use Rattle.plant_view.proofs.ListLemmas.{sorted_put_all}

absorbed : (a b c : Bool) → a ≡ b → (a || c) ≡ (a || (b || c))
absorbed true b c e = refl
absorbed false true c e = absurd cc
absorbed false false c e = refl

turned : (a b c : Bool) → (a || (b || c)) ≡ (b || (a || c))
turned true true c = refl
turned true false c = refl
turned false b c = refl

moved : (a b c : Bool) → (a || (b || c)) ≡ ((b || a) || c)
moved true true c = refl
moved true false c = refl
moved false true c = refl
moved false false c = refl

tied : (o : Ordering) → is_eq o ≡ true → o ≡ Equal
tied Less e = absurd cc
tied Equal e = refl
tied Greater e = absurd cc

module _ {R : Type 0} (order : R → R → Ordering) (exact : CmpEqualImpliesEq order) (eq : R → R → Bool) (ties : (x y : R) → eq x y ≡ is_eq (order x y)) where
  module _ (test : R → Bool) where
    put_any : (r : R) (rows : List R) → list_any test (put order r rows) ≡ (test r || list_any test rows)
    put_any r [] = refl
    put_any r (x ∷ rows) = by (order r x) refl (put_any r rows)
      where
        by : (o : Ordering) → order r x ≡ o → list_any test (put order r rows) ≡ (test r || list_any test rows)
            → list_any test (match_ordering o (r ∷ x ∷ rows) (r ∷ rows) (x ∷ put order r rows)) ≡ (test r || (test x || list_any test rows))
        by Less e more = refl
        by Equal e more = absorbed (test r) (test x) (list_any test rows) (ap test (exact r x e))
        by Greater e more = ap (λ b. test x || b) more ∙ turned (test x) (test r) (list_any test rows)

    all_any : (rs rows : List R) → list_any test (put_all order rs rows) ≡ (list_any test rs || list_any test rows)
    all_any [] rows = refl
    all_any (r ∷ rs) rows = all_any rs (put order r rows) ∙ ap (λ b. list_any test rs || b) (put_any r rows) ∙ moved (list_any test rs) (test r) (list_any test rows)

    once_any : (xs : List R) (k : R) → list_any test (dedup_from eq k xs) ≡ (test k || list_any test xs)
    once_any [] k = refl
    once_any (x ∷ xs) k = by (eq x k) refl (once_any xs)
      where
        by : (b : Bool) → eq x k ≡ b → ((r : R) → list_any test (dedup_from eq r xs) ≡ (test r || list_any test xs))
            → list_any test (cond b (dedup_from eq k xs) (k ∷ dedup_from eq x xs)) ≡ (test k || (test x || list_any test xs))
        by true e more = more k ∙ absorbed (test k) (test x) (list_any test xs) (sym (ap test (exact x k (tied (order x k) (sym (ties x k) ∙ e)))))
        by false e more = ap (λ b. test k || b) (more x)

    dedup_any : (xs : List R) → list_any test (dedup eq xs) ≡ list_any test xs
    dedup_any [] = refl
    dedup_any (x ∷ xs) = once_any xs x

  none_more : (a : Bool) → (a || false) ≡ a
  none_more true = refl
  none_more false = refl

  pub sorted_once : IsTotalOrder order → (xs ys : List R) → IsPermutation xs ys → IsSorted order ys → dedup eq ys ≡ put_all order xs []
  unfolding IsStrictlySortedBy
  sorted_once total xs ys same sorted =
      let kept : BTreeSet R = record { keys = dedup eq ys } in
      let made : BTreeSet R = record { keys = put_all order xs [] } in
      btree_set_from_contains total kept made (IsStrictlySortedBy-dedup total ties ys sorted) (sorted_put_all order total xs [] tt)
      (λ q. dedup_any (is_at (order q)) ys ∙ sym (list_any-IsPermutation (is_at (order q)) xs ys same) ∙ sym (all_any (is_at (order q)) xs [] ∙ none_more (list_any (is_at (order q)) xs)))
      exact
