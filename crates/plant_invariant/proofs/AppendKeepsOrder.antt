-- Lists to which rows are appended: facts about each row, what a filter leaves, and the order of the rows.
use Rattle.std.proofs.Common.{◌≡◌, ◌∙◌, Bool, true, false, cond, List, [], ◌∷◌, ◌++◌, filter, refl, ap, Ordering, Less, append-nil}
use Rattle.std.specs.List.{AllByRecursion}
use Rattle.std.specs.List.Sorted.{IsStrictlySortedBy}
use Rattle.std.proofs.lemmas.List.Elements.{filter-append}
use Rattle.plant_view.proofs.ListLemmas.{none_left}
pub use Rattle.std.proofs.lemmas.Bool.{ne_eqb as numbers_differ}
pub use Rattle.plant_view.proofs.RowsInTurn.{all_append}
pub use Rattle.plant_view.proofs.RowKeys.{number_less}

-- ---- facts about each row

-- rows that go in between others
pub all_middle : {X : Type 0} (P : X → Type 0) (xs new ys : List X) → AllByRecursion P (xs ++ ys) → AllByRecursion P new → AllByRecursion P ((xs ++ new) ++ ys)
all_middle P [] new ys a b = all_append P new ys b a
all_middle P (x ∷ xs) new ys a b = (a.0, all_middle P xs new ys a.1 b)

-- rows that go in after others
pub all_end : {X : Type 0} (P : X → Type 0) (xs ys new : List X) → AllByRecursion P (xs ++ ys) → AllByRecursion P new → AllByRecursion P (xs ++ (ys ++ new))
all_end P [] ys new a b = all_append P ys new a b
all_end P (x ∷ xs) ys new a b = (a.0, all_end P xs ys new a.1 b)

-- what holds of the rows whatever the key is holds of each row at each key
pub all_swap : {I X : Type 0} (R : I → X → Type 0) (xs : List X) → ((i : I) → AllByRecursion (R i) xs) → AllByRecursion (λ x. (i : I) → R i x) xs
all_swap R [] h = tt
all_swap R (x ∷ xs) h = (λ i. (h i).0, all_swap R xs (λ i. (h i).1))

-- what holds of those that a filter leaves holds of each that passes its test
pub all_passing : {X : Type 0} (P : X → Type 0) (test : X → Bool) (xs : List X) → AllByRecursion P (filter test xs) → AllByRecursion (λ x. test x ≡ true → P x) xs
all_passing P test [] a = tt
all_passing {X} P test (x ∷ xs) a = elim (test x) as (λ b. AllByRecursion P (cond b (x ∷ filter test xs) (filter test xs)) → (b ≡ true → P x) × AllByRecursion (λ y. test y ≡ true → P y) xs) [
  | true ↦ λ h. (λ e. h.0, all_passing P test xs h.1)
  | false ↦ λ h. (λ e. absurd cc, all_passing P test xs h)
] a

-- ---- what a filter leaves

-- where each row passes all are left
pub all_left : {X : Type 0} (test : X → Bool) (xs : List X) → AllByRecursion (λ x. test x ≡ true) xs → filter test xs ≡ xs
all_left test [] a = refl
all_left test (x ∷ xs) a = ap (λ b. cond b (x ∷ filter test xs) (filter test xs)) a.0 ∙ ap (λ ys. x ∷ ys) (all_left test xs a.1)

-- rows that don't pass add nothing
pub filter_old : {X : Type 0} (test : X → Bool) (xs new : List X) → AllByRecursion (λ x. test x ≡ false) new → filter test (xs ++ new) ≡ filter test xs
filter_old test xs new a = filter-append test xs new ∙ ap (λ ys. filter test xs ++ ys) (none_left test new a) ∙ append-nil (filter test xs)

-- rows that pass are all that is left where no other does
pub filter_added : {X : Type 0} (test : X → Bool) (xs new : List X) → AllByRecursion (λ x. test x ≡ false) xs → AllByRecursion (λ x. test x ≡ true) new → filter test (xs ++ new) ≡ new
filter_added test xs new a b = filter-append test xs new ∙ ap (λ ys. ys ++ filter test new) (none_left test xs a) ∙ all_left test new b

-- ---- order

module _ {X : Type 0} (order : X → X → Ordering) where
  -- ascending rows after lower ones
  pub sorted_append : (xs ys : List X) → IsStrictlySortedBy order xs → IsStrictlySortedBy order ys → AllByRecursion (λ x. AllByRecursion (λ y. order x y ≡ Less) ys) xs → IsStrictlySortedBy order (xs ++ ys)
  unfolding IsStrictlySortedBy
  sorted_append [] ys a b below = b
  sorted_append (x ∷ xs) ys a b below = (all_append (λ y. order x y ≡ Less) xs ys a.0 below.0, sorted_append xs ys a.1 b below.1)

  -- one row after lower ones
  pub sorted_push : (xs : List X) (y : X) → IsStrictlySortedBy order xs → AllByRecursion (λ x. order x y ≡ Less) xs → IsStrictlySortedBy order (xs ++ y ∷ [])
  unfolding IsStrictlySortedBy
  sorted_push [] y a below = (tt, tt)
  sorted_push (x ∷ xs) y a below = (all_append (λ z. order x z ≡ Less) xs (y ∷ []) a.0 (below.0, tt), sorted_push xs y a.1 below.1)
