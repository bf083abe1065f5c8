-- Two lists in order as one.
use Rattle.std.proofs.Common.{◌≡◌, ◌∙◌, ◌≤◌, ◌<◌, ℕ, zero, suc, Bool, true, false, cond, ◌||◌, List, [], ◌∷◌, filter, take, length, nat_lt, refl, sym, ap, arith, Ordering, Less, Equal, Greater, take_all}
use Rattle.std.specs.List.{AllByRecursion}
use Rattle.std.specs.List.Sorted.{IsStrictlySortedBy}
use Rattle.std.specs.Cmp.{IsTotalOrder}
use Rattle.std.specs.Ordering.{ordering_reverse}
use Rattle.std.specs.Set.{sorted_merge}
use Rattle.std.proofs.lemmas.Bool.Decides.{nat_tests}
use Rattle.std.proofs.lemmas.Cmp.{tied_itself}
use Rattle.plant_view.proofs.ListLemmas.{all_filtered}
use Rattle.plant_questions.specs.{page_size, page_of}
use Rattle.plant_questions.specs.declared.page.Page.{Page}
use Rattle.std.proofs.lemmas.Grind.{common_steps}

by_order : {P : Type 0} (o : Ordering) → (o ≡ Less → P) → (o ≡ Equal → P) → (o ≡ Greater → P) → P
by_order Less less equal greater = less refl
by_order Equal less equal greater = equal refl
by_order Greater less equal greater = greater refl

module _ {R : Type 0} (order : R → R → Ordering) where
  abbrev merged : List R → List R → List R
  merged = sorted_merge order true

  alone : (xs : List R) → merged xs [] ≡ xs
  alone [] = refl
  alone (x ∷ xs) = refl

  -- where the second list has nothing the first row is that of the first
  pub first_alone : (xs ys more : List R) (x : R) → xs ≡ x ∷ more → length ys ≡ 0 → merged xs ys ≡ x ∷ merged more ys
  first_alone xs [] more x first none = rw first (ap (λ l. x ∷ l) (sym (alone more)))
  first_alone xs (y ∷ ys) more x first none = absurd (omega (arith, none))

  -- ---- prefixes

  take_prefix : (k n : ℕ) (xs : List R) → k ≤ n → take k (take n xs) ≡ take k xs
  take_prefix k n xs few = grind (common_steps, arith)

  -- the prefix of two lists as one is that of their prefixes
  take_merged : (k n m : ℕ) (xs ys : List R) → k ≤ n → k ≤ m → take k (merged (take n xs) (take m ys)) ≡ take k (merged xs ys)
  take_merged zero n m xs ys few some = refl
  take_merged (suc k) zero m xs ys few some = absurd (omega (arith, few))
  take_merged (suc k) (suc n) zero xs ys few some = absurd (omega (arith, some))
  take_merged (suc k) (suc n) (suc m) [] ys few some = take_prefix (suc k) (suc m) ys some
  take_merged (suc k) (suc n) (suc m) (x ∷ xs) [] few some = take_prefix (suc k) (suc n) (x ∷ xs) few
  take_merged (suc k) (suc n) (suc m) (x ∷ xs) (y ∷ ys) few some = by_order (order x y)
      (λ e. rw e (ap (λ l. x ∷ l) (take_merged k n (suc m) xs (y ∷ ys) (omega (arith, few)) (omega (arith, some)))))
      (λ e. rw e (ap (λ l. x ∷ l) (take_merged k n m xs ys (omega (arith, few)) (omega (arith, some)))))
      (λ e. rw e (ap (λ l. y ∷ l) (take_merged k (suc n) m (x ∷ xs) ys (omega (arith, few)) (omega (arith, some)))))

  covers : (xs ys : List R) → (length xs ≤ length (merged xs ys)) × (length ys ≤ length (merged xs ys))
  covers [] ys = omega arith
  covers (x ∷ xs) [] = omega arith
  covers (x ∷ xs) (y ∷ ys) = by_order (order x y)
      (λ e. rw e (let more = covers xs (y ∷ ys) in (omega (arith, more.0), omega (arith, more.1))))
      (λ e. rw e (let more = covers xs ys in (omega (arith, more.0), omega (arith, more.1))))
      (λ e. rw e (let more = covers (x ∷ xs) ys in (omega (arith, more.0), omega (arith, more.1))))

  -- whether more come after the prefix, by whether more come after either prefix, and by what both prefixes have
  more_by : (n : ℕ) (xs ys : List R) (a b : Bool) → nat_lt n (length xs) ≡ a → nat_lt n (length ys) ≡ b
      → (nat_lt n (length xs) || (nat_lt n (length ys) || nat_lt n (length (merged (take n xs) (take n ys))))) ≡ nat_lt n (length (merged xs ys))
  more_by n xs ys true b e f =
      let long : n < length xs = grind (arith, nat_tests) in
      let more : nat_lt n (length (merged xs ys)) ≡ true = let all = (covers xs ys).0 in let over : n < length (merged xs ys) = omega (arith, long, all) in grind (arith, nat_tests) in
      rw (e, more) refl
  more_by n xs ys false true e f =
      let long : n < length ys = grind (arith, nat_tests) in
      let more : nat_lt n (length (merged xs ys)) ≡ true = let all = (covers xs ys).1 in let over : n < length (merged xs ys) = omega (arith, long, all) in grind (arith, nat_tests) in
      rw (e, f, more) refl
  more_by n xs ys false false e f =
      let few : length xs ≤ n = grind (arith, nat_tests) in
      let some : length ys ≤ n = grind (arith, nat_tests) in
      rw (e, f, take_all n xs few, take_all n ys some) refl

  -- the first page of two lists as one, from the first page of each
  pub pages_merged : (xs ys : List R) (page : Page R) → page.rows ≡ take page_size (merged (take page_size xs) (take page_size ys))
      → page.has_more ≡ (nat_lt page_size (length xs) || (nat_lt page_size (length ys) || nat_lt page_size (length (merged (take page_size xs) (take page_size ys))))) → page ≡ page_of (merged xs ys)
  pages_merged xs ys page rows more =
      let prefix : page.rows ≡ take page_size (merged xs ys) = rows ∙ take_merged page_size page_size page_size xs ys (omega arith) (omega arith) in
      let reported : page.has_more ≡ nat_lt page_size (length (merged xs ys)) = more ∙ more_by page_size xs ys (nat_lt page_size (length xs)) (nat_lt page_size (length ys)) refl refl in
      λ i. record { rows = prefix i; has_more = reported i }

  -- ---- rows of one list

  module _ (total : IsTotalOrder order) where
    first_before : (x : R) (xs ys : List R) → AllByRecursion (λ y. order x y ≡ Less) ys → merged (x ∷ xs) ys ≡ x ∷ merged xs ys
    first_before x xs [] cursor = ap (λ l. x ∷ l) (sym (alone xs))
    first_before x xs (y ∷ ys) cursor = rw cursor.0 refl

    second_before : (y : R) (xs ys : List R) → AllByRecursion (λ x. order y x ≡ Less) xs → merged xs (y ∷ ys) ≡ y ∷ merged xs ys
    second_before y [] ys cursor = refl
    second_before y (x ∷ xs) ys cursor =
        let after : order x y ≡ Greater = total.antisymm x y ∙ ap ordering_reverse cursor.0 in
        rw after refl

    by_tests : (p q : R → Bool) (r : R) (rs : List R) → AllByRecursion (λ y. order r y ≡ Less) rs → merged (filter p rs) (filter q rs) ≡ filter (λ x. p x || q x) rs
        → (a b : Bool) → merged (cond a (r ∷ filter p rs) (filter p rs)) (cond b (r ∷ filter q rs) (filter q rs)) ≡ cond (a || b) (r ∷ filter (λ x. p x || q x) rs) (filter (λ x. p x || q x) rs)
    by_tests p q r rs cursor rest true true = let itself : order r r ≡ Equal = tied_itself total r in rw itself (ap (λ l. r ∷ l) rest)
    by_tests p q r rs cursor rest true false = first_before r (filter p rs) (filter q rs) (all_filtered (λ y. order r y ≡ Less) q rs cursor) ∙ ap (λ l. r ∷ l) rest
    by_tests p q r rs cursor rest false true = second_before r (filter p rs) (filter q rs) (all_filtered (λ y. order r y ≡ Less) p rs cursor) ∙ ap (λ l. r ∷ l) rest
    by_tests p q r rs cursor rest false false = rest

    -- rows of a list in order that pass the one test, and those that pass the other, as one are those that pass either
    pub merged_filters : (p q : R → Bool) (rs : List R) → IsStrictlySortedBy order rs → merged (filter p rs) (filter q rs) ≡ filter (λ x. p x || q x) rs
    unfolding IsStrictlySortedBy
    merged_filters p q [] sorted = refl
    merged_filters p q (r ∷ rs) sorted = by_tests p q r rs sorted.0 (merged_filters p q rs sorted.1) (p r) (q r)
