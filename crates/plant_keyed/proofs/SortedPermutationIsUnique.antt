-- Rows of a strictly ascending list are in its order again, whatever order they come in.
use Rattle.std.proofs.Common.{◌≡◌, refl, sym, ap, ◌∙◌, ◌≤◌, List, [], ◌∷◌, length, filter, Bool, true, false, arith, is_eq, Ordering, Less, Equal, Greater, IsPermutation}
use Rattle.std.specs.Ordering.{match_ordering}
use Rattle.std.specs.Cmp.{IsTotalOrder}
use Rattle.std.specs.List.{AllByRecursion}
use Rattle.std.specs.List.Sorted.{IsStrictlySortedBy}
use Rattle.std.proofs.lemmas.Bool.{false≢true}
use Rattle.std.proofs.lemmas.Cmp.{tied_itself}
use Rattle.std.proofs.lemmas.List.Kept.{IsStrictlySortedBy-filter}
use Rattle.std.proofs.lemmas.List.Sorted.{IsPermutation-refl, IsPermutation-trans, IsPermutation-sym, IsPermutation-cons, IsPermutation-middle, length_permutation}
use Rattle.sqlite_trees.proofs.ListLemmas.{IsPermutation-filter, all-permutation}
use Rattle.plant_base.specs.{put}
use Rattle.plant_view.proofs.ListLemmas.{sorted_put, all_weaker}
use Rattle.plant_tables.proofs.SortedRowsAreUnique.{same_sorted}
use Rattle.plant_questions.specs.{in_order}

module _ {R : Type 0} (order : R → R → Ordering) (total : IsTotalOrder order) where
  abbrev ties : R → R → Bool
  ties r x = is_eq (order r x)

  -- no row of the list has this one's key
  abbrev IsApart : R → List R → Type 0
  IsApart r xs = AllByRecursion (λ x. ties r x ≡ false) xs

  -- no two of the rows tie in the order
  abbrev pub IsOnce : List R → Type 0
  IsOnce xs = (r : R) → length (filter (ties r) xs) ≤ 1

  put_by : (r x : R) (xs : List R) → ties r x ≡ false → IsPermutation (r ∷ xs) (put order r xs) → (o : Ordering) → order r x ≡ o → IsPermutation (r ∷ x ∷ xs) (match_ordering o (r ∷ x ∷ xs) (r ∷ xs) (x ∷ put order r xs))
  put_by r x xs apart more Less e = IsPermutation-refl _
  put_by r x xs apart more Equal e = absurd (false≢true (sym apart ∙ ap is_eq e))
  put_by r x xs apart more Greater e =
      IsPermutation-trans (r ∷ x ∷ xs) (x ∷ r ∷ xs) (x ∷ put order r xs) (IsPermutation-sym (x ∷ r ∷ xs) (r ∷ x ∷ xs) (IsPermutation-middle (x ∷ []) r xs)) (IsPermutation-cons x (r ∷ xs) (put order r xs) more)

  put_apart : (r : R) (xs : List R) → IsApart r xs → IsPermutation (r ∷ xs) (put order r xs)
  put_apart r [] apart = IsPermutation-refl _
  put_apart r (x ∷ xs) apart = put_by r x xs apart.0 (put_apart r xs apart.1) (order r x) refl

  none_ties : (r : R) (xs : List R) → IsApart r xs → filter (ties r) xs ≡ []
  none_ties r [] apart = refl
  none_ties r (x ∷ xs) apart = rw apart.0 (none_ties r xs apart.1)

  by_tie : (r x : R) (xs : List R) → IsApart x xs → length (filter (ties r) xs) ≤ 1 → (o : Ordering) → order r x ≡ o → length (filter (ties r) (x ∷ xs)) ≤ 1
  by_tie r x xs apart few Less e = rw e few
  by_tie r x xs apart few Greater e = rw e few
  by_tie r x xs apart few Equal e =
      let none : filter (ties r) xs ≡ [] = none_ties r xs (all_weaker (λ y. ties x y ≡ false) (λ y. ties r y ≡ false) (λ y none. ap is_eq (total.congr r x y e) ∙ none) xs apart) in
      rw (e, none) (omega arith)

  pub sorted_once : (xs : List R) → IsStrictlySortedBy order xs → IsOnce xs
  unfolding IsStrictlySortedBy
  sorted_once [] sorted r = omega arith
  sorted_once (x ∷ xs) sorted r = by_tie r x xs (all_weaker (λ y. order x y ≡ Less) (λ y. ties x y ≡ false) (λ y less. ap is_eq less) xs sorted.0) (sorted_once xs sorted.1 r) (order r x) refl

  -- each row is at another position than those after it
  abbrev pub AreApart : List R → Type 0
  AreApart [] = Unit {0}
  AreApart (x ∷ xs) = IsApart x xs × AreApart xs

  pub apart_once : (xs : List R) → AreApart xs → IsOnce xs
  apart_once [] apart r = omega arith
  apart_once (x ∷ xs) apart r = by_tie r x xs apart.0 (apart_once xs apart.1 r) (order r x) refl

  once_moved : (xs ys : List R) → IsPermutation xs ys → IsOnce xs → IsOnce ys
  once_moved xs ys same once r = omega (arith, length_permutation (filter (ties r) xs) (filter (ties r) ys) (IsPermutation-filter (ties r) xs ys same), once r)

  tail_by : (r x : R) (xs : List R) (b : Bool) → ties r x ≡ b → length (filter (ties r) (x ∷ xs)) ≤ 1 → length (filter (ties r) xs) ≤ 1
  tail_by r x xs true e few = let more = rw e at few in omega (arith, more)
  tail_by r x xs false e few = rw e at few

  apart_by : (r x : R) (xs : List R) (b : Bool) → ties r x ≡ b → length (filter (ties r) (x ∷ xs)) ≤ 0 → (length (filter (ties r) xs) ≤ 0 → IsApart r xs) → IsApart r (x ∷ xs)
  apart_by r x xs true e none more = let some = rw e at none in absurd (omega (arith, some))
  apart_by r x xs false e none more = (e, more (rw e at none))

  apart_of : (r : R) (xs : List R) → length (filter (ties r) xs) ≤ 0 → IsApart r xs
  apart_of r [] none = tt
  apart_of r (x ∷ xs) none = apart_by r x xs (ties r x) refl none (apart_of r xs)

  first_apart : (x : R) (xs : List R) → IsOnce (x ∷ xs) → IsApart x xs
  first_apart x xs once =
      let itself : ties x x ≡ true = ap is_eq (tied_itself total x) in
      let few = rw itself at (once x) in
      apart_of x xs (omega (arith, few))

  -- such rows are in the order, each once, when they are put in order
  pub ordered : (ys : List R) → IsOnce ys → IsStrictlySortedBy order (in_order order ys) × IsPermutation ys (in_order order ys)
  unfolding IsStrictlySortedBy
  ordered [] once = (tt, IsPermutation-refl [])
  ordered (y ∷ ys) once =
      let more = ordered ys (λ r. tail_by r y ys (ties r y) refl (once r)) in
      let apart = all-permutation (λ x. ties y x ≡ false) ys (in_order order ys) more.1 (first_apart y ys once) in
      (sorted_put order total y (in_order order ys) more.0, IsPermutation-trans (y ∷ ys) (y ∷ in_order order ys) (put order y (in_order order ys)) (IsPermutation-cons y ys (in_order order ys) more.1) (put_apart y (in_order order ys) apart))

  pub again_in_order : (rs ys : List R) → IsStrictlySortedBy order rs → IsPermutation rs ys → in_order order ys ≡ rs
  again_in_order rs ys sorted same =
      let made = ordered ys (once_moved rs ys same (sorted_once rs sorted)) in
      same_sorted order total (in_order order ys) rs made.0 sorted (IsPermutation-sym rs (in_order order ys) (IsPermutation-trans rs ys (in_order order ys) same made.1))

-- ---- the same of those that pass a test

fewer_by : {R : Type 0} (t u : R → Bool) → ((r : R) → t r ≡ true → u r ≡ true) → (x : R) (xs : List R) → length (filter t xs) ≤ length (filter u xs) → (a b : Bool) → t x ≡ a → u x ≡ b → length (filter t (x ∷ xs)) ≤ length (filter u (x ∷ xs))
fewer_by t u follows x xs less true true e f = rw (e, f) (omega (arith, less))
fewer_by t u follows x xs less true false e f = absurd (false≢true (sym f ∙ follows x e))
fewer_by t u follows x xs less false true e f = rw (e, f) (omega (arith, less))
fewer_by t u follows x xs less false false e f = rw (e, f) less

-- where one test follows from another, no fewer rows pass it
fewer : {R : Type 0} (t u : R → Bool) → ((r : R) → t r ≡ true → u r ≡ true) → (xs : List R) → length (filter t xs) ≤ length (filter u xs)
fewer t u follows [] = omega arith
fewer t u follows (x ∷ xs) = fewer_by t u follows x xs (fewer t u follows xs) (t x) (u x) refl refl

kept_by : {R : Type 0} (t p : R → Bool) (x : R) (xs : List R) → length (filter t (filter p xs)) ≤ length (filter t xs) → (a b : Bool) → p x ≡ a → t x ≡ b → length (filter t (filter p (x ∷ xs))) ≤ length (filter t (x ∷ xs))
kept_by t p x xs less true true e f = rw (e, f) (omega (arith, less))
kept_by t p x xs less true false e f = rw (e, f) less
kept_by t p x xs less false true e f = rw (e, f) (omega (arith, less))
kept_by t p x xs less false false e f = rw (e, f) less

-- of the rows that pass a test no more pass another than of all
fewer_kept : {R : Type 0} (t p : R → Bool) (xs : List R) → length (filter t (filter p xs)) ≤ length (filter t xs)
fewer_kept t p [] = omega arith
fewer_kept t p (x ∷ xs) = kept_by t p x xs (fewer_kept t p xs) (p x) (t x) refl refl

pub once_kept : {R : Type 0} (order : R → R → Ordering) (total : IsTotalOrder order) (p : R → Bool) (xs : List R) → IsOnce order total xs → IsOnce order total (filter p xs)
once_kept order total p xs once r = omega (arith, fewer_kept (ties order total r) p xs, once r)

-- it is the same to put rows in order and to take those that pass
pub kept_in_order : {R : Type 0} (order : R → R → Ordering) (total : IsTotalOrder order) (p : R → Bool) (xs : List R) → IsOnce order total xs → filter p (in_order order xs) ≡ in_order order (filter p xs)
kept_in_order order total p xs once =
    let all = in_order order xs in
    let made = ordered order total xs once in
    let some = ordered order total (filter p xs) (once_kept order total p xs once) in
    same_sorted order total (filter p all) (in_order order (filter p xs)) (IsStrictlySortedBy-filter order p all made.0) some.0
    (IsPermutation-trans (filter p all) (filter p xs) (in_order order (filter p xs)) (IsPermutation-filter p all xs (IsPermutation-sym xs all made.1)) some.1)

-- ---- rows that ascend by a key, in another order

-- no two of them tie in an order that sets different keys apart
pub once_by_key : {R : Type 0} (key order : R → R → Ordering) (total : IsTotalOrder key) (total' : IsTotalOrder order) → ((a b : R) → is_eq (order a b) ≡ true → is_eq (key a b) ≡ true) → (xs : List R) → IsStrictlySortedBy key xs → IsOnce order total' xs
once_by_key key order total total' apart xs sorted r = omega (arith, fewer (ties order total' r) (ties key total r) (apart r) xs, sorted_once key total xs sorted r)
