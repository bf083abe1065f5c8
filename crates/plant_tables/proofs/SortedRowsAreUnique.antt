-- Lists that rise by a key: of the same rows there is one.
use Rattle.std.proofs.Common.{◌≡◌, refl, sym, ap, ap₂, ◌∙◌, subst, inl, inr, ◌⊎◌, ℕ, suc, pos, List, [], ◌∷◌, map, filter, Bool, true, false, ◌==◌, nat_lt, is_lt, add-one, arith, nat_cmp, int_cmp, Ordering, Less, Equal, Greater, IsPermutation}
use Rattle.std.specs.Ordering.{ordering_reverse}
use Rattle.std.specs.Cmp.{IsTotalOrder}
use Rattle.std.specs.List.{AllByRecursion}
use Rattle.std.specs.List.Sorted.{IsStrictlySortedBy}
use Rattle.std.proofs.lemmas.Bool.{false≢true}
use Rattle.std.proofs.lemmas.Bool.Decides.{nat_tests}
use Rattle.std.proofs.lemmas.Cmp.{tied_itself}
use Rattle.std.proofs.lemmas.List.Elements.{recursion_from_All, All-from_recursion}
use Rattle.std.proofs.lemmas.List.Sorted.{length_permutation, All-permutation, IsPermutation-sym}
use Rattle.sqlite_trees.proofs.ListLemmas.{IsPermutation-filter}
use Rattle.plant_view.proofs.ListLemmas.{all_weaker}
use Rattle.sql_queries.specs.Rises.{Rises}

-- numbers that aren't negative have one order
pub int_cmp_pos : (m n : ℕ) → int_cmp (pos m) (pos n) ≡ nat_cmp m n
int_cmp_pos m n = go (nat_lt m n) (m == n) refl refl
  where
    go : (less same : Bool) → nat_lt m n ≡ less → (m == n) ≡ same → int_cmp (pos m) (pos n) ≡ nat_cmp m n
    go true same e f = rw e refl
    go false true e f =
        let more : nat_lt n m ≡ false = grind (arith, nat_tests) in
        rw (e, f, more) refl
    go false false e f =
        let more : nat_lt n m ≡ true = grind (arith, nat_tests) in
        rw (e, f, more) refl

less_is : (o : Ordering) → is_lt o ≡ true → o ≡ Less
less_is Less h = refl
less_is Equal h = absurd (false≢true h)
less_is Greater h = absurd (false≢true h)

module _ {X : Type 0} (cmp : X → X → Ordering) (total : IsTotalOrder cmp) where
  abbrev is_above : X → X → Bool
  is_above x z = is_lt (cmp x z)

  all_above : (x : X) (xs : List X) → AllByRecursion (λ y. cmp x y ≡ Less) xs → filter (is_above x) xs ≡ xs
  all_above x [] all = refl
  all_above x (y ∷ ys) all =
      let here : is_above x y ≡ true = ap is_lt all.0 in
      rw here (ap (λ l. y ∷ l) (all_above x ys all.1))

  rest : (x : X) (xs : List X) → AllByRecursion (λ y. cmp x y ≡ Less) xs → filter (is_above x) (x ∷ xs) ≡ xs
  rest x xs all =
      let here : is_above x x ≡ false = ap is_lt (tied_itself total x) in
      rw here (all_above x xs all)

  abbrev IsFrom : X → X → Type 0
  IsFrom x y = (y ≡ x) ⊎ (cmp x y ≡ Less)

  all_from_head : (x : X) (xs : List X) → AllByRecursion (λ y. cmp x y ≡ Less) xs → AllByRecursion (IsFrom x) (x ∷ xs)
  all_from_head x xs all = (inl refl, all_weaker (λ y. cmp x y ≡ Less) (IsFrom x) (λ y h. inr h) xs all)

  -- what the first of the one list is among the rows of the other
  first_from : (x y : X) (xs ys : List X) → AllByRecursion (λ z. cmp x z ≡ Less) xs → IsPermutation (x ∷ xs) (y ∷ ys) → IsFrom x y
  first_from x y xs ys all same = (recursion_from_All (IsFrom x) (y ∷ ys) (All-permutation (IsFrom x) (x ∷ xs) (y ∷ ys) same (All-from_recursion (IsFrom x) (x ∷ xs) (all_from_head x xs all)))).0

  one_first : (x y : X) → IsFrom x y → IsFrom y x → x ≡ y
  one_first x y (inl e) g = sym e
  one_first x y (inr l) (inl e) = e
  one_first x y (inr l) (inr m) = let turned : Less ≡ Greater = sym l ∙ total.antisymm x y ∙ ap ordering_reverse m in absurd (cc)

  pub same_sorted : (xs ys : List X) → IsStrictlySortedBy cmp xs → IsStrictlySortedBy cmp ys → IsPermutation xs ys → xs ≡ ys
  unfolding IsStrictlySortedBy
  same_sorted [] [] sx sy same = refl
  same_sorted [] (y ∷ ys) sx sy same = absurd (omega (arith, length_permutation [] (y ∷ ys) same))
  same_sorted (x ∷ xs) [] sx sy same = absurd (omega (arith, length_permutation (x ∷ xs) [] same))
  same_sorted (x ∷ xs) (y ∷ ys) sx sy same =
      let first : x ≡ y = one_first x y (first_from x y xs ys sx.0 same) (first_from y x ys xs sy.0 (IsPermutation-sym (x ∷ xs) (y ∷ ys) same)) in
      let tails : IsPermutation (filter (is_above x) (x ∷ xs)) (filter (is_above x) (y ∷ ys)) = IsPermutation-filter (is_above x) (x ∷ xs) (y ∷ ys) same in
      let left : filter (is_above x) (x ∷ xs) ≡ xs = rest x xs sx.0 in
      let right : filter (is_above x) (y ∷ ys) ≡ ys = ap (λ z. filter (is_above z) (y ∷ ys)) first ∙ rest y ys sy.0 in
      ap₂ (λ z l. z ∷ l) first (same_sorted xs ys sx.1 sy.1 (subst (λ l. IsPermutation xs l) right (subst (λ l. IsPermutation l (filter (is_above x) (y ∷ ys))) left tails)))

-- ---- from one element to the next, and from each to all after it

module _ {X K : Type 0} (key : X → K) (before : X → X → Bool) (cmp : K → K → Ordering) (total : IsTotalOrder cmp) (agrees : (a b : X) → before a b ≡ is_lt (cmp (key a) (key b))) where
  tail_rises : (x : X) (xs : List X) → Rises before (x ∷ xs) → Rises before xs
  tail_rises x xs rise k d h = rw add-one (rw add-one at (rise (suc k) d (omega arith)))

  first_rises : (x y : X) (ys : List X) → Rises before (x ∷ y ∷ ys) → cmp (key x) (key y) ≡ Less
  first_rises x y ys rise = less_is (cmp (key x) (key y)) (sym (agrees x y) ∙ rise 0 x (omega arith))

  pub strictly_sorted : (xs : List X) → Rises before xs → IsStrictlySortedBy cmp (map key xs)
  unfolding IsStrictlySortedBy
  strictly_sorted [] rise = tt
  strictly_sorted (x ∷ []) rise = (tt, tt)
  strictly_sorted (x ∷ y ∷ ys) rise =
      let more = strictly_sorted (y ∷ ys) (tail_rises x (y ∷ ys) rise) in
      let first = first_rises x y ys rise in
      ((first, all_weaker (λ z. cmp (key y) z ≡ Less) (λ z. cmp (key x) z ≡ Less) (λ z h. total.trans (key x) (key y) z first h) (map key ys) more.0), more)

module _ {R K : Type 0} (key : R → K) (order : R → R → Ordering) (cmp : K → K → Ordering) (agrees : (a b : R) → order a b ≡ cmp (key a) (key b)) where
  keys_below : (r : R) (rs : List R) → AllByRecursion (λ y. order r y ≡ Less) rs → AllByRecursion (λ z. cmp (key r) z ≡ Less) (map key rs)
  keys_below r [] all = tt
  keys_below r (y ∷ ys) all = (sym (agrees r y) ∙ all.0, keys_below r ys all.1)

  pub sorted_keys : (rs : List R) → IsStrictlySortedBy order rs → IsStrictlySortedBy cmp (map key rs)
  unfolding IsStrictlySortedBy
  sorted_keys [] sorted = tt
  sorted_keys (r ∷ rs) sorted = (keys_below r rs sorted.0, sorted_keys rs sorted.1)
