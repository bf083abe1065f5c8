-- Rows of which only equal ones tie: sets of them, and lists that are compared row by row.
use Rattle.std.proofs.Common.{◌≡◌, ◌∙◌, ◌≤◌, Bool, true, List, [], ◌∷◌, ◌++◌, length, refl, sym, ap, arith, is_eq, Ordering, Less, Equal, Greater}
use Rattle.std.specs.BTreeSet.{insert_key}
use Rattle.std.specs.Cmp.{IsTotalOrder}
use Rattle.std.specs.Cmp.Lexicographic.{pointwise}
use Rattle.std.specs.Ordering.{match_ordering}
use Rattle.std.proofs.lemmas.Bool.{and_from, and_parts}
use Rattle.std.proofs.lemmas.Cmp.{eq_by_cmp_equiv}
use Rattle.std.proofs.lemmas.Map.Lookups.{CmpEqualImpliesEq}
use Rattle.plant_base.specs.{put}
use Rattle.plant_view.specs.{put_all}
use Rattle.plant_view.proofs.EdgeRowOrder.{put_all_append}

tied : (o : Ordering) → is_eq o ≡ true → o ≡ Equal
tied Less e = absurd cc
tied Equal e = refl
tied Greater e = absurd cc

module _ {R : Type 0} (order : R → R → Ordering) where
  -- ---- rows that are put make a list no shorter

  longer_by : (r x : R) (rows : List R) → length rows ≤ length (put order r rows) → (o : Ordering) → length (x ∷ rows) ≤ length (match_ordering o (r ∷ x ∷ rows) (r ∷ rows) (x ∷ put order r rows))
  longer_by r x rows more Less = omega arith
  longer_by r x rows more Equal = omega arith
  longer_by r x rows more Greater = omega (arith, more)

  put_longer : (r : R) (rows : List R) → length rows ≤ length (put order r rows)
  put_longer r [] = omega arith
  put_longer r (x ∷ rows) = longer_by r x rows (put_longer r rows) (order r x)

  pub all_longer : (rs rows : List R) → length rows ≤ length (put_all order rs rows)
  all_longer [] rows = omega arith
  all_longer (r ∷ rs) rows = omega (arith, put_longer r rows, all_longer rs (put order r rows))

  module _ (exact : CmpEqualImpliesEq order) where
    -- ---- a set of rows

    by_tie : (r x : R) (rows : List R) → insert_key order rows r ≡ put order r rows → (o : Ordering) → order r x ≡ o
        → match_ordering o (r ∷ x ∷ rows) (x ∷ rows) (x ∷ insert_key order rows r) ≡ match_ordering o (r ∷ x ∷ rows) (r ∷ rows) (x ∷ put order r rows)
    by_tie r x rows rest Less h = refl
    by_tie r x rows rest Equal h = ap (λ (y : R). y ∷ rows) (sym (exact r x h))
    by_tie r x rows rest Greater h = ap (λ (ys : List R). x ∷ ys) rest

    -- one that is there may be left or put again
    inserted : (r : R) (rows : List R) → insert_key order rows r ≡ put order r rows
    inserted r [] = refl
    inserted r (x ∷ rows) = by_tie r x rows (inserted r rows) (order r x) refl

    -- one more row in the set of those before
    pub put_last : (prefix : List R) (r : R) (rows : List R) → insert_key order (put_all order prefix rows) r ≡ put_all order (prefix ++ r ∷ []) rows
    put_last prefix r rows = inserted r (put_all order prefix rows) ∙ sym (put_all_append order prefix (r ∷ []) rows)

    -- ---- lists of rows

    module _ (total : IsTotalOrder order) (eq : R → R → Bool) (ties : (x y : R) → eq x y ≡ is_eq (order x y)) where
      itself : (r : R) → eq r r ≡ true
      itself r = ties r r ∙ (eq_by_cmp_equiv total).refl r

      pub same_itself : (rs : List R) → pointwise eq rs rs ≡ true
      same_itself [] = refl
      same_itself (r ∷ rs) = and_from _ _ (itself r) (same_itself rs)

      pub same_list : (rs ss : List R) → pointwise eq rs ss ≡ true → rs ≡ ss
      same_list [] [] e = refl
      same_list [] (y ∷ ss) e = absurd cc
      same_list (x ∷ rs) [] e = absurd cc
      same_list (x ∷ rs) (y ∷ ss) e =
          let both = and_parts (eq x y) (pointwise eq rs ss) e in
          let one = exact x y (tied (order x y) (sym (ties x y) ∙ both.0)) in
          λ i. one i ∷ same_list rs ss both.1 i
