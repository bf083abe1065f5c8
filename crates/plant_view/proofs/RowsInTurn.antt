-- Rows that go in one after the other, and rows that are numbered.
use Rattle.std.proofs.Common.{◌≡◌, ◌∙◌, ℕ, ◌+◌, ◌<◌, Bool, true, false, cond, List, [], ◌++◌, ◌∷◌, Option, Some, None, map, filter, find, is_some, take, get_or, option_map, length, refl, sym, ap, append_assoc, arith, ◌&&◌, is_eq, Ordering, Less, Equal, Greater, append-nil}
use Rattle.std.specs.List.{AllByRecursion, list_all}
use Rattle.std.specs.List.Sorted.{IsStrictlySortedBy}
use Rattle.std.specs.Cmp.{IsTotalOrder}
use Rattle.std.specs.Ordering.{match_ordering, ordering_reverse}
use Rattle.std.proofs.lemmas.Bool.{false≢true}
use Rattle.std.proofs.lemmas.List.{take_more, map-append}
use Rattle.plant_base.specs.{put}
use Rattle.plant_base.proofs.PutKeepsOrder.{all_weaker, all_put, all_push, sorted_put, found_same}
use Rattle.plant_view.specs.{numbered, put_all}

-- ---- what holds of rows

pub all_of : {X : Type 0} (P : X → Type 0) → ((x : X) → P x) → (xs : List X) → AllByRecursion P xs
all_of P f [] = tt
all_of P f (x ∷ xs) = (f x, all_of P f xs)

pub all_append : {X : Type 0} (P : X → Type 0) (xs ys : List X) → AllByRecursion P xs → AllByRecursion P ys → AllByRecursion P (xs ++ ys)
all_append P [] ys a b = b
all_append P (x ∷ xs) ys a b = (a.0, all_append P xs ys a.1 b)

pub all_mapped : {X Y : Type 0} (P : Y → Type 0) (f : X → Y) (xs : List X) → AllByRecursion (λ x. P (f x)) xs → AllByRecursion P (map f xs)
all_mapped P f [] a = tt
all_mapped P f (x ∷ xs) a = (a.0, all_mapped P f xs a.1)

pub all_unmapped : {X Y : Type 0} (P : Y → Type 0) (f : X → Y) (xs : List X) → AllByRecursion P (map f xs) → AllByRecursion (λ x. P (f x)) xs
all_unmapped P f [] a = tt
all_unmapped P f (x ∷ xs) a = (a.0, all_unmapped P f xs a.1)

pub all_filtered : {X : Type 0} (P : X → Type 0) (test : X → Bool) (xs : List X) → AllByRecursion P xs → AllByRecursion P (filter test xs)
all_filtered P test [] a = tt
all_filtered P test (x ∷ xs) a = elim (test x) as (λ b. AllByRecursion P (cond b (x ∷ filter test xs) (filter test xs))) [
  | true ↦ (a.0, all_filtered P test xs a.1)
  | false ↦ all_filtered P test xs a.1
]

-- each row that a filter leaves passes its test
pub filtered_passes : {X : Type 0} (test : X → Bool) (xs : List X) → AllByRecursion (λ x. test x ≡ true) (filter test xs)
filtered_passes test [] = tt
filtered_passes test (x ∷ xs) = elim (test x) as (λ b. test x ≡ b → AllByRecursion (λ y. test y ≡ true) (cond b (x ∷ filter test xs) (filter test xs))) [
  | true ↦ λ e. (e, filtered_passes test xs)
  | false ↦ λ e. filtered_passes test xs
] refl

-- where a lookup finds none no row passes
pub none_passes : {X : Type 0} (test : X → Bool) (xs : List X) → is_some (find test xs) ≡ false → AllByRecursion (λ x. test x ≡ false) xs
none_passes test [] e = tt
none_passes {X} test (x ∷ xs) e = elim (test x) as (λ b. is_some (cond b (Some x) (find test xs)) ≡ false → (b ≡ false) × AllByRecursion (λ y. test y ≡ false) xs) [
  | true ↦ λ f. absurd (false≢true (sym f))
  | false ↦ λ f. (refl, none_passes test xs f)
] e

-- each of the rows passes a test that all pass
pub each_passes : {X : Type 0} (test : X → Bool) (xs : List X) → list_all test xs ≡ true → AllByRecursion (λ x. test x ≡ true) xs
each_passes test [] e = tt
each_passes {X} test (x ∷ xs) e = elim (test x) as (λ b. (b && list_all test xs) ≡ true → (b ≡ true) × AllByRecursion (λ y. test y ≡ true) xs) [
  | true ↦ λ f. (refl, each_passes test xs f)
  | false ↦ λ f. absurd (false≢true f)
] e

-- where no row passes nothing is left
pub none_left : {X : Type 0} (test : X → Bool) (xs : List X) → AllByRecursion (λ x. test x ≡ false) xs → filter test xs ≡ []
none_left test [] a = refl
none_left test (x ∷ xs) a = ap (λ b. cond b (x ∷ filter test xs) (filter test xs)) a.0 ∙ none_left test xs a.1

pub sorted_mapped : {X Y : Type 0} (order : Y → Y → Ordering) (f : X → Y) (xs : List X) → IsStrictlySortedBy (λ a b. order (f a) (f b)) xs → IsStrictlySortedBy order (map f xs)
unfolding IsStrictlySortedBy
sorted_mapped order f [] a = tt
sorted_mapped order f (x ∷ xs) a = (all_mapped (λ y. order (f x) y ≡ Less) f xs a.0, sorted_mapped order f xs a.1)

-- what is found of mapped rows
pub find_mapped : {X Y : Type 0} (test : Y → Bool) (f : X → Y) (xs : List X) → find test (map f xs) ≡ option_map f (find (λ x. test (f x)) xs)
find_mapped test f [] = refl
find_mapped test f (x ∷ xs) = elim (test (f x)) as (λ b. cond b (Some (f x)) (find test (map f xs)) ≡ option_map f (cond b (Some x) (find (λ y. test (f y)) xs))) [
  | true ↦ refl
  | false ↦ find_mapped test f xs
]

pub some_mapped : {X Y : Type 0} (f : X → Y) (o : Option X) → is_some (option_map f o) ≡ is_some o
some_mapped f None = refl
some_mapped f (Some x) = refl

-- one more row is mapped
pub map_more : {X Y : Type 0} (f : X → Y) (xs : List X) (i : ℕ) (x : X) (ys : List Y) (y : Y) → i < length xs → x ≡ get_or xs i x → y ≡ f x → ys ≡ map f (take i xs) → ys ++ y ∷ [] ≡ map f (take (i + 1) xs)
map_more f xs i x ys y l at is e =
    let longer : take (i + 1) xs ≡ take i xs ++ x ∷ [] = take_more xs i x l ∙ ap (λ q. take i xs ++ q ∷ []) (sym at) in
    (λ j. e j ++ is j ∷ []) ∙ sym (ap (map f) longer ∙ map-append f (take i xs) (x ∷ []))

-- ---- one row that is put

module _ {R : Type 0} (order : R → R → Ordering) (total : IsTotalOrder order) (r : R) where
  -- before rows that are all greater
  pub put_first : (rows : List R) → AllByRecursion (λ y. order r y ≡ Less) rows → put order r rows ≡ r ∷ rows
  put_first [] a = refl
  put_first (x ∷ xs) a = ap (λ o. match_ordering o (r ∷ x ∷ xs) (r ∷ xs) (x ∷ put order r xs)) a.0

  -- after rows that are all less
  pub put_last : (rows : List R) → AllByRecursion (λ y. order y r ≡ Less) rows → put order r rows ≡ rows ++ r ∷ []
  put_last [] a = refl
  put_last (x ∷ xs) a =
      let above : order r x ≡ Greater = total.antisymm r x ∙ ap ordering_reverse a.0 in
      ap (λ o. match_ordering o (r ∷ x ∷ xs) (r ∷ xs) (x ∷ put order r xs)) above ∙ ap (λ ys. x ∷ ys) (put_last xs a.1)

  apart_by_order : (P : R → Type 0) (x : R) (xs : List R) → P r → AllByRecursion (λ y. order x y ≡ Less) xs → AllByRecursion (λ q. is_eq (order r q) ≡ false → P q) (x ∷ xs) → AllByRecursion P (put order r xs)
      → (o : Ordering) → order r x ≡ o → AllByRecursion P (match_ordering o (r ∷ x ∷ xs) (r ∷ xs) (x ∷ put order r xs))
  apart_by_order P x xs h sorted a more Less l = (h, (a.0 (ap is_eq l), rest xs sorted a.1))
    where
      rest : (ys : List R) → AllByRecursion (λ y. order x y ≡ Less) ys → AllByRecursion (λ q. is_eq (order r q) ≡ false → P q) ys → AllByRecursion P ys
      rest [] s b = tt
      rest (y ∷ ys) s b = (b.0 (ap is_eq (total.trans r x y l s.0)), rest ys s.1 b.1)
  apart_by_order P x xs h sorted a more Equal l = (h, rest xs sorted a.1)
    where
      rest : (ys : List R) → AllByRecursion (λ y. order x y ≡ Less) ys → AllByRecursion (λ q. is_eq (order r q) ≡ false → P q) ys → AllByRecursion P ys
      rest [] s b = tt
      rest (y ∷ ys) s b = (b.0 (ap is_eq (total.congr r x y l ∙ s.0)), rest ys s.1 b.1)
  apart_by_order P x xs h sorted a more Greater l = (a.0 (ap is_eq l), more)

  -- what holds of the row, and of the others where they have other keys, holds afterwards
  pub all_put_apart : (P : R → Type 0) (rows : List R) → IsStrictlySortedBy order rows → P r → AllByRecursion (λ q. is_eq (order r q) ≡ false → P q) rows → AllByRecursion P (put order r rows)
  unfolding IsStrictlySortedBy
  all_put_apart P [] sorted h a = (h, tt)
  all_put_apart P (x ∷ xs) sorted h a = apart_by_order P x xs h sorted.0 a (all_put_apart P xs sorted.1 h a.1) (order r x) refl

  module _ (test : R → Bool) where
    -- a lookup that neither the row nor one of its key passes
    pub found_past : (rows : List R) → test r ≡ false → AllByRecursion (λ q. order r q ≡ Equal → test q ≡ false) rows → find test (put order r rows) ≡ find test rows
    found_past [] t keeps = ap (λ b. cond b (Some r) None) t
    found_past (x ∷ xs) t keeps = by_order (order r x) refl (found_past xs t keeps.1)
      where
        by_order : (o : Ordering) → order r x ≡ o → find test (put order r xs) ≡ find test xs → find test (match_ordering o (r ∷ x ∷ xs) (r ∷ xs) (x ∷ put order r xs)) ≡ find test (x ∷ xs)
        by_order Less l more = ap (λ b. cond b (Some r) (find test (x ∷ xs))) t
        by_order Equal l more = ap (λ b. cond b (Some r) (find test xs)) t ∙ sym (ap (λ b. cond b (Some x) (find test xs)) (keeps.0 l))
        by_order Greater l more = ap (λ ys. cond (test x) (Some x) ys) more

    -- a lookup of the row's own key finds the row
    pub found_own : (rows : List R) → test r ≡ true → ((q : R) → test q ≡ is_eq (order r q)) → find test (put order r rows) ≡ Some r
    found_own [] t agrees = ap (λ b. cond b (Some r) None) t
    found_own (x ∷ xs) t agrees = by_order (order r x) refl (found_own xs t agrees)
      where
        by_order : (o : Ordering) → order r x ≡ o → find test (put order r xs) ≡ Some r → find test (match_ordering o (r ∷ x ∷ xs) (r ∷ xs) (x ∷ put order r xs)) ≡ Some r
        by_order Less l more = ap (λ b. cond b (Some r) (find test (x ∷ xs))) t
        by_order Equal l more = ap (λ b. cond b (Some r) (find test xs)) t
        by_order Greater l more = ap (λ b. cond b (Some x) (find test (put order r xs))) (agrees x ∙ ap is_eq l) ∙ more

    module _ (tied : (q : R) → order r q ≡ Equal → test r ≡ test q) where
      -- a row that doesn't pass is passed over
      pub filter_past : (rows : List R) → test r ≡ false → filter test (put order r rows) ≡ filter test rows
      filter_past [] t = ap (λ b. cond b (r ∷ []) []) t
      filter_past (x ∷ xs) t = by_order (order r x) refl (filter_past xs t)
        where
          by_order : (o : Ordering) → order r x ≡ o → filter test (put order r xs) ≡ filter test xs → filter test (match_ordering o (r ∷ x ∷ xs) (r ∷ xs) (x ∷ put order r xs)) ≡ filter test (x ∷ xs)
          by_order Less l more = ap (λ b. cond b (r ∷ filter test (x ∷ xs)) (filter test (x ∷ xs))) t
          by_order Equal l more = ap (λ b. cond b (r ∷ filter test xs) (filter test xs)) t ∙ sym (ap (λ b. cond b (x ∷ filter test xs) (filter test xs)) (sym (tied x l) ∙ t))
          by_order Greater l more = ap (λ ys. cond (test x) (x ∷ ys) ys) more

      -- a row that passes is put among those that do
      pub filter_put : (rows : List R) → IsStrictlySortedBy order rows → test r ≡ true → filter test (put order r rows) ≡ put order r (filter test rows)
      unfolding IsStrictlySortedBy
      filter_put [] sorted t = ap (λ b. cond b (r ∷ []) []) t
      filter_put (x ∷ xs) sorted t = by_order (order r x) refl (filter_put xs sorted.1 t)
        where
          by_order : (o : Ordering) → order r x ≡ o → filter test (put order r xs) ≡ put order r (filter test xs) → filter test (match_ordering o (r ∷ x ∷ xs) (r ∷ xs) (x ∷ put order r xs)) ≡ put order r (filter test (x ∷ xs))
          by_order Less l more =
              ap (λ b. cond b (r ∷ filter test (x ∷ xs)) (filter test (x ∷ xs))) t
              ∙ sym (put_first (filter test (x ∷ xs)) (all_filtered (λ y. order r y ≡ Less) test (x ∷ xs) (l, all_weaker _ _ (λ y less. total.trans r x y l less) xs sorted.0)))
          by_order Equal l more =
              ap (λ b. cond b (r ∷ filter test xs) (filter test xs)) t
              ∙ sym (ap (λ b. put order r (cond b (x ∷ filter test xs) (filter test xs))) (sym (tied x l) ∙ t) ∙ ap (λ o. match_ordering o (r ∷ x ∷ filter test xs) (r ∷ filter test xs) (x ∷ put order r (filter test xs))) l)
          by_order Greater l more =
              ap (λ ys. cond (test x) (x ∷ ys) ys) more
              ∙ elim (test x) as (λ b. cond b (x ∷ put order r (filter test xs)) (put order r (filter test xs)) ≡ put order r (cond b (x ∷ filter test xs) (filter test xs))) [
                | true ↦ sym (ap (λ o. match_ordering o (r ∷ x ∷ filter test xs) (r ∷ filter test xs) (x ∷ put order r (filter test xs))) l)
                | false ↦ refl
              ]

-- ---- rows that are put one after the other

module _ {R : Type 0} (order : R → R → Ordering) (total : IsTotalOrder order) where
  pub all_put_all : (P : R → Type 0) (rs rows : List R) → AllByRecursion P rs → AllByRecursion P rows → AllByRecursion P (put_all order rs rows)
  all_put_all P [] rows a b = b
  all_put_all P (r ∷ rs) rows a b = all_put_all P rs (put order r rows) a.1 (all_put order P r rows a.0 b)

  pub sorted_put_all : (rs rows : List R) → IsStrictlySortedBy order rows → IsStrictlySortedBy order (put_all order rs rows)
  sorted_put_all [] rows sorted = sorted
  sorted_put_all (r ∷ rs) rows sorted = sorted_put_all rs (put order r rows) (sorted_put order total r rows sorted)

  -- ascending rows that go in after the others
  put_behind : (rs rows : List R) → IsStrictlySortedBy order rs → AllByRecursion (λ a. AllByRecursion (λ r. order a r ≡ Less) rs) rows → put_all order rs rows ≡ rows ++ rs
  unfolding IsStrictlySortedBy
  put_behind [] rows sorted a = sym (append-nil rows)
  put_behind (r ∷ rs) rows sorted a =
      ap (put_all order rs) (put_last order total r rows (all_weaker _ _ (λ y less. less.0) rows a))
      ∙ put_behind rs (rows ++ r ∷ []) sorted.1 (all_push (λ y. AllByRecursion (λ q. order y q ≡ Less) rs) rows r (all_weaker _ _ (λ y less. less.1) rows a) sorted.0)
      ∙ append_assoc rows (r ∷ []) rs

  module _ (test : R → Bool) (tied : (r q : R) → order r q ≡ Equal → test r ≡ test q) where
    -- none of them passes
    pub filter_past_all : (rs rows : List R) → AllByRecursion (λ r. test r ≡ false) rs → filter test (put_all order rs rows) ≡ filter test rows
    filter_past_all [] rows a = refl
    filter_past_all (r ∷ rs) rows a = filter_past_all rs (put order r rows) a.1 ∙ filter_past order total r test (tied r) rows a.0

    -- and a lookup finds what it found
    pub found_past_all : (rs rows : List R) → AllByRecursion (λ r. test r ≡ false) rs → find test (put_all order rs rows) ≡ find test rows
    found_past_all [] rows a = refl
    found_past_all (r ∷ rs) rows a = found_past_all rs (put order r rows) a.1 ∙ found_same order r test rows a.0 (λ q e. sym (tied r q e) ∙ a.0)

    filter_put_all : (rs rows : List R) → IsStrictlySortedBy order rows → AllByRecursion (λ r. test r ≡ true) rs → filter test (put_all order rs rows) ≡ put_all order rs (filter test rows)
    filter_put_all [] rows sorted a = refl
    filter_put_all (r ∷ rs) rows sorted a = filter_put_all rs (put order r rows) (sorted_put order total r rows sorted) a.1 ∙ ap (put_all order rs) (filter_put order total r test (tied r) rows sorted a.0)

    -- they are ascending, and the only ones that pass
    pub filter_new_all : (rs rows : List R) → IsStrictlySortedBy order rows → IsStrictlySortedBy order rs → AllByRecursion (λ r. test r ≡ true) rs → filter test rows ≡ [] → filter test (put_all order rs rows) ≡ rs
    filter_new_all rs rows sorted ascending a none = filter_put_all rs rows sorted a ∙ ap (put_all order rs) none ∙ put_behind rs [] ascending tt

-- ---- numbered rows

module _ {L R : Type 0} (f : ℕ → L → R) where
  pub all_numbered : (P : R → Type 0) → ((k : ℕ) (l : L) → P (f k l)) → (k : ℕ) (ls : List L) → AllByRecursion P (numbered f k ls)
  all_numbered P h k [] = tt
  all_numbered P h k (l ∷ ls) = (h k l, all_numbered P h (k + 1) ls)

  pub map_numbered : (g : R → L) → ((k : ℕ) (l : L) → g (f k l) ≡ l) → (k : ℕ) (ls : List L) → map g (numbered f k ls) ≡ ls
  map_numbered g e k [] = refl
  map_numbered g e k (l ∷ ls) = λ i. e k l i ∷ map_numbered g e (k + 1) ls i

  module _ (order : R → R → Ordering) (rises : (k m : ℕ) (l n : L) → k < m → order (f k l) (f m n) ≡ Less) where
    above_numbered : (k m : ℕ) (l : L) (ls : List L) → k < m → AllByRecursion (λ r. order (f k l) r ≡ Less) (numbered f m ls)
    above_numbered k m l [] h = tt
    above_numbered k m l (n ∷ ls) h = (rises k m l n h, above_numbered k (m + 1) l ls (omega (arith, h)))

    -- they ascend
    pub sorted_numbered : (k : ℕ) (ls : List L) → IsStrictlySortedBy order (numbered f k ls)
    unfolding IsStrictlySortedBy
    sorted_numbered k [] = tt
    sorted_numbered k (l ∷ ls) = (above_numbered k (k + 1) l ls (omega arith), sorted_numbered (k + 1) ls)
