-- Rows in the order of their keys.
use Rattle.std.proofs.Common.{◌≡◌, ◌∙◌, sym, subst, ◌+◌, ◌<◌, Bool, true, false, List, [], ◌∷◌, length, refl, ap, map, Option, Some, None, arith, filter, not, ◌&&◌, IfOk, Result, Ok, Err, Vec, Global, Ordering, Less, Equal, Greater, IsSortedByKey, is_some, is_eq, is_lt}
use Rattle.std.specs.Bool.{OnTrue}
use Rattle.std.specs.List.{IsAllAdjacentAnswer}
use Rattle.std.specs.Cmp.{IsTotalOrder}
use Rattle.std.specs.List.Sorted.{IsStableByKey}
use Rattle.std.specs.Option.{option_cmp}
use Rattle.std.specs.Ordering.{ordering_reverse}
use Rattle.std.proofs.lemmas.Cmp.{alike_right}
use Rattle.std.proofs.lemmas.List.{get_or-map, length-map}
use Rattle.grouped_rows.specs.{Rises, Searchable, is_keyed}
use Rattle.grouped_rows.proofs.FilteredRows.{filter_of_map, filter_within, stable_keeps}

-- neither of two keys is less where they compare as equal
not_apart : (o : Ordering) → is_eq o ≡ (not (is_lt (ordering_reverse o)) && not (is_lt o))
not_apart Less = refl
not_apart Equal = refl
not_apart Greater = refl

is_equal : (o : Ordering) → is_eq o ≡ true → o ≡ Equal
is_equal Less e = cc
is_equal Equal e = refl
is_equal Greater e = cc

-- a row has the key of a row exactly where the two tie
tied : {K : Type 0} (cmp : K → K → Ordering) → IsTotalOrder cmp → (k : K) (a b : Option K) → is_keyed cmp a k ≡ true → is_keyed cmp b k ≡ (not (is_lt (option_cmp cmp a b)) && not (is_lt (option_cmp cmp b a)))
tied cmp o k None b h = cc
tied cmp o k (Some j) None h = refl
tied cmp o k (Some j) (Some i) h =
    rw (o.antisymm j i, alike_right o j k i (is_equal (cmp j k) h)) (not_apart (cmp i k))

-- a row with a key of its own has one
has_key : {K : Type 0} (cmp : K → K → Ordering) (k : K) (a : Option K) → is_keyed cmp a k ≡ true → is_some a ≡ true
has_key cmp k None h = cc
has_key cmp k (Some j) h = refl

rises_through : {R X K : Type 0} (cmp : K → K → Ordering) (key_of : R → Option K) (f : X → R) (xs : List X) → IsSortedByKey (λ x. key_of (f x)) (option_cmp cmp) xs → Rises cmp key_of (map f xs)
rises_through cmp key_of f [] sorted k d low high = absurd (omega arith)
rises_through cmp key_of f (x ∷ xs) sorted k d low high =
    let more : k + 1 < length (x ∷ xs) = omega (arith, length-map xs f) in
    let here : k < length (x ∷ xs) = omega arith in
    rw (get_or-map f (x ∷ xs) (k + 1) x d more, get_or-map f (x ∷ xs) k x d here) (sorted k x low more)

pub searchable : {R X K : Type 0} (cmp : K → K → Ordering) → IsTotalOrder cmp → (key_of : R → Option K) (f : X → R) (rows : List R) (xs ys : List X) →
    map f xs ≡ filter (λ r. is_some (key_of r)) rows →
    IsSortedByKey (λ x. key_of (f x)) (option_cmp cmp) ys →
    IsStableByKey (λ x. key_of (f x)) (option_cmp cmp) xs ys →
    Searchable cmp key_of rows (map f ys)
searchable {R} {X} {K} cmp o key_of f rows xs ys are sorted stable = record {
  rises = rises_through cmp key_of f ys sorted;
  same = λ k. let p : R → Bool = λ r. is_keyed cmp (key_of r) k in
      filter_of_map p f ys
      ∙ ap (map f) (stable_keeps (λ x. p (f x)) (λ x y. is_lt (option_cmp cmp (key_of (f x)) (key_of (f y)))) (λ x h y. tied cmp o k (key_of (f x)) (key_of (f y)) h) xs ys stable)
      ∙ sym (filter_of_map p f xs)
      ∙ ap (filter p) are
      ∙ filter_within p (λ r. is_some (key_of r)) (λ r h. has_key cmp k (key_of r) h) rows;
}

pub searchable_itself : {R K : Type 0} (cmp : K → K → Ordering) (key_of : R → Option K) (rows : List R) → Rises cmp key_of rows → Searchable cmp key_of rows rows
searchable_itself cmp key_of rows rises = record { rises = rises; same = λ k. refl }

-- what `is_sorted_by` answers
pub rises_from_answer : {R K : Type 0} (cmp : K → K → Ordering) (key_of : R → Option K) (rows : List R) (yes : Bool) → IsAllAdjacentAnswer (λ x y b. b ≡ not (is_lt (option_cmp cmp (key_of y) (key_of x)))) rows yes → OnTrue yes (Rises cmp key_of rows)
rises_from_answer cmp key_of rows false h = tt
rises_from_answer cmp key_of rows true h = λ k d low high. by _ (h k d high)
  where
    by : (b : Bool) → true ≡ not b → b ≡ false
    by true e = cc
    by false e = refl

pub searchable_copy : {R K E : Type 0} (cmp : K → K → Ordering) (key_of : R → Option K) (rows found : List R) (r : Result (Vec R Global) E) → Searchable cmp key_of rows found → IfOk r (λ v. v.items ≡ found) → IfOk r (λ v. Searchable cmp key_of rows v.items)
searchable_copy cmp key_of rows found (Ok v) s e = subst (λ l. Searchable cmp key_of rows l) (sym e) s
searchable_copy cmp key_of rows found (Err x) s e = tt
