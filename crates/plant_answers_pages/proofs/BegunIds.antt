-- The ids that begin with another follow it without a gap in the order of ids.
use Rattle.std.proofs.Common.{◌≡◌, ◌∙◌, ℕ, zero, suc, ◌≤◌, ◌<◌, ◌==◌, Bool, true, false, cond, ◌&&◌, List, [], ◌∷◌, map, filter, find, take, is_some, Some, None, refl, sym, ap, arith, nat_cmp, is_eq, Ordering, Less, Equal, Greater}
use Rattle.std.specs.Ordering.{ordering_then, ordering_reverse}
use Rattle.std.specs.List.{AllByRecursion}
use Rattle.std.specs.List.Sorted.{IsStrictlySortedBy}
use Rattle.std.specs.Cmp.{ranks}
use Rattle.std.specs.Ordering.{MatchOrdering}
use Rattle.std.proofs.lemmas.Bool.Decides.{nat_tests}
use Rattle.std.proofs.lemmas.Cmp.{nat_list_cmp_total}
use Rattle.std.proofs.lemmas.Map.Text.{is_eq-slice_cmp}
use Rattle.std.proofs.lemmas.Map.Lookups.{exact_bytes}
use Rattle.plant_base.specs.{id_cmp, same}
use Rattle.plant_questions.specs.{page_size, is_after, begins_with, first_begun}
use Rattle.plant_answers_pages.specs.{own_first}

-- ---- one id

differ : (b x : ℕ) → (b ≡ x → ⊥) → (b == x) ≡ false
differ b x other = grind (arith, nat_tests)

itself : (b : ℕ) → (b == b) ≡ true
itself b = grind (arith, nat_tests)

-- an id before it doesn't begin with it
pub not_before : (p y : List ℕ) → id_cmp y p ≡ Less → begins_with p y ≡ false
not_before [] [] less = absurd cc
not_before [] (y ∷ ys) less = absurd cc
not_before (b ∷ bs) [] less = refl
not_before (b ∷ bs) (y ∷ ys) less = by (nat_cmp y b) (ranks y b) less (not_before bs ys)
  where
    by : (o : Ordering) → MatchOrdering o (y < b) (y ≡ b) (b < y) → ordering_then o (id_cmp ys bs) ≡ Less → (id_cmp ys bs ≡ Less → begins_with bs ys ≡ false) → ((b == y) && begins_with bs ys) ≡ false
    by Less low less rest = rw (differ b y (λ e. omega (arith, low, e))) refl
    by Equal is less rest = rw (sym is, itself y) (rest less)
    by Greater high less rest = absurd cc

-- it begins with itself
pub begins_itself : (p : List ℕ) → begins_with p p ≡ true
begins_itself [] = refl
begins_itself (b ∷ bs) = rw (itself b) (begins_itself bs)

-- where an id after it doesn't begin with it, none after that does
pub none_further : (p y z : List ℕ) → id_cmp y p ≡ Greater → begins_with p y ≡ false → id_cmp y z ≡ Less → begins_with p z ≡ false
none_further [] y z more other less = absurd cc
none_further (b ∷ bs) [] z more other less = absurd cc
none_further (b ∷ bs) (y ∷ ys) [] more other less = refl
none_further (b ∷ bs) (y ∷ ys) (z ∷ zs) more other less = by (nat_cmp y b) (ranks y b) (nat_cmp y z) (ranks y z) more less other (none_further bs ys zs)
  where
    by : (o : Ordering) → MatchOrdering o (y < b) (y ≡ b) (b < y) → (q : Ordering) → MatchOrdering q (y < z) (y ≡ z) (z < y) → ordering_then o (id_cmp ys bs) ≡ Greater → ordering_then q (id_cmp ys zs) ≡ Less → ((b == y) && begins_with bs ys) ≡ false → (id_cmp ys bs ≡ Greater → begins_with bs ys ≡ false → id_cmp ys zs ≡ Less → begins_with bs zs ≡ false) → ((b == z) && begins_with bs zs) ≡ false
    by Less low q at more less other further = absurd cc
    by Equal is Less at more less other further = rw (differ b z (λ e. omega (arith, is, at, e))) refl
    by Equal is Equal at more less other further =
        let rest : begins_with bs ys ≡ false = rw (sym is, itself y) at other in
        rw (sym at, sym is, itself y) (further more rest less)
    by Equal is Greater at more less other further = absurd cc
    by Greater high Less at more less other further = rw (differ b z (λ e. omega (arith, high, at, e))) refl
    by Greater high Equal at more less other further = rw (differ b z (λ e. omega (arith, high, at, e))) refl
    by Greater high Greater at more less other further = absurd cc

-- ---- rows in the order of their ids

-- the order of two ids, seen from the other
pub turned : (x y : List ℕ) → id_cmp x y ≡ Less → id_cmp y x ≡ Greater
turned x y less = nat_list_cmp_total.antisymm y x ∙ ap ordering_reverse less

pub same_is : (x y : List ℕ) → same x y ≡ is_eq (id_cmp x y)
same_is x y = sym (is_eq-slice_cmp x y)

pub equal_is : (x y : List ℕ) → id_cmp x y ≡ Equal → x ≡ y
equal_is x y e = exact_bytes x y e

pub own_equal : (p : List ℕ) → id_cmp p p ≡ Equal
own_equal p = by (id_cmp p p) (nat_list_cmp_total.antisymm p p)
  where
    by : (o : Ordering) → o ≡ ordering_reverse o → o ≡ Equal
    by Less e = absurd cc
    by Equal e = refl
    by Greater e = absurd cc

module _ {R : Type 0} (key : R → List ℕ) (p : List ℕ) where
  abbrev pub IsPast : R → Type 0
  IsPast r = id_cmp (key r) p ≡ Greater

  abbrev pub key_order : R → R → Ordering
  key_order a b = id_cmp (key a) (key b)

  abbrev pub begun : List R → List (List ℕ)
  begun rows = filter (begins_with p) (map key rows)

  pub none_begin : (y : R) → IsPast y → begins_with p (key y) ≡ false → (rows : List R) → AllByRecursion (λ r. key_order y r ≡ Less) rows → begun rows ≡ []
  none_begin y past other [] all = refl
  none_begin y past other (z ∷ zs) all = rw (none_further p (key y) (key z) past other all.0) (none_begin y past other zs all.1)

  pub all_take : (Q : R → Type 0) (m : ℕ) (rows : List R) → AllByRecursion Q rows → AllByRecursion Q (take m rows)
  all_take Q zero rows all = tt
  all_take Q (suc m) [] all = tt
  all_take Q (suc m) (r ∷ rows) all = (all.0, all_take Q m rows all.1)

  -- of rows past it a page has the first that begin with it
  pub first_of_page : (n m : ℕ) → n ≤ m → (rows : List R) → AllByRecursion IsPast rows → IsStrictlySortedBy key_order rows → take n (begun (take m rows)) ≡ take n (begun rows)
  unfolding IsStrictlySortedBy
  first_of_page zero m le rows past sorted = refl
  first_of_page (suc n) zero le rows past sorted = absurd (omega (arith, le))
  first_of_page (suc n) (suc m) le [] past sorted = refl
  first_of_page (suc n) (suc m) le (y ∷ ys) past sorted = by (begins_with p (key y)) refl (first_of_page n m (omega (arith, le)) ys past.1 sorted.1)
    where
      by : (b : Bool) → begins_with p (key y) ≡ b → take n (begun (take m ys)) ≡ take n (begun ys) → take (suc n) (cond b (key y ∷ begun (take m ys)) (begun (take m ys))) ≡ take (suc n) (cond b (key y ∷ begun ys) (begun ys))
      by true e rest = ap (λ l. key y ∷ l) rest
      by false e rest = rw (none_begin y past.0 e (take m ys) (all_take (λ r. key_order y r ≡ Less) m ys sorted.0), none_begin y past.0 e ys sorted.0) refl

  abbrev pub is_past : R → Bool
  is_past r = is_after (Some p) (key r)

  abbrev pub is_own : R → Bool
  is_own r = same (key r) p

  pub all_past : (rows : List R) → AllByRecursion IsPast rows → filter is_past rows ≡ rows
  all_past [] past = refl
  all_past (r ∷ rows) past = rw past.0 (ap (λ l. r ∷ l) (all_past rows past.1))

  none_own : (rows : List R) → AllByRecursion IsPast rows → find is_own rows ≡ None
  none_own [] past = refl
  none_own (r ∷ rows) past = rw (same_is (key r) p, past.0) (none_own rows past.1)

  -- those after one that isn't before it are past it
  pub past_one : (x : R) → id_cmp (key x) p ≡ Greater → (rows : List R) → AllByRecursion (λ r. key_order x r ≡ Less) rows → AllByRecursion IsPast rows
  past_one x past [] all = tt
  past_one x past (z ∷ zs) all = (turned p (key z) (nat_list_cmp_total.trans p (key x) (key z) (turned_back past) all.0), past_one x past zs all.1)
    where
      turned_back : id_cmp (key x) p ≡ Greater → id_cmp p (key x) ≡ Less
      turned_back e = nat_list_cmp_total.antisymm p (key x) ∙ ap ordering_reverse e

  past_own : (x : R) → key x ≡ p → (rows : List R) → AllByRecursion (λ r. key_order x r ≡ Less) rows → AllByRecursion IsPast rows
  past_own x is [] all = tt
  past_own x is (z ∷ zs) all = (turned p (key z) (rw is at all.0), past_own x is zs all.1)

  begun_by : (n m : ℕ) → n ≤ m → (rows : List R) → IsStrictlySortedBy key_order rows → take (suc n) (begun rows) ≡ take (suc n) (filter (begins_with p) (own_first (is_some (find is_own rows)) p (map key (take (suc m) (filter is_past rows)))))
  unfolding IsStrictlySortedBy
  begun_by n m le [] sorted = refl
  begun_by n m le (x ∷ xs) sorted = by (id_cmp (key x) p) refl (begun_by n m le xs sorted.1)
    where
      by : (o : Ordering) → id_cmp (key x) p ≡ o → take (suc n) (begun xs) ≡ take (suc n) (filter (begins_with p) (own_first (is_some (find is_own xs)) p (map key (take (suc m) (filter is_past xs)))))
          → take (suc n) (begun (x ∷ xs)) ≡ take (suc n) (filter (begins_with p) (own_first (is_some (find is_own (x ∷ xs))) p (map key (take (suc m) (filter is_past (x ∷ xs))))))
      by Less e rest = rw (not_before p (key x) e, same_is (key x) p, e) rest
      by Equal e rest =
          let is = equal_is (key x) p e in
          let past = past_own x is xs sorted.0 in
          rw (is, begins_itself p, same_is p p, own_equal p, all_past xs past, begins_itself p)
          (ap (λ l. p ∷ l) (sym (first_of_page n (suc m) (omega (arith, le)) xs past sorted.1)))
      by Greater e rest =
          let past = past_one x e xs sorted.0 in
          rw (all_past (x ∷ xs) (e, past), none_own (x ∷ xs) (e, past)) (sym (first_of_page (suc n) (suc m) (omega (arith, le)) (x ∷ xs) (e, past) sorted))

  -- the first that begin with it are among itself, where it is there, and a page of those that come after it
  pub begun_of_rows : (rows : List R) → IsStrictlySortedBy key_order rows → first_begun p (map key rows) ≡ first_begun p (own_first (is_some (find is_own rows)) p (map key (take page_size (filter is_past rows))))
  begun_of_rows rows sorted = begun_by 19 99 (omega arith) rows sorted

  -- all that begin with it are itself, where it is there, and those after it that do
  pub begun_split : (rows : List R) → IsStrictlySortedBy key_order rows → begun rows ≡ filter (begins_with p) (own_first (is_some (find is_own rows)) p (map key (filter is_past rows)))
  unfolding IsStrictlySortedBy
  begun_split [] sorted = refl
  begun_split (x ∷ xs) sorted = by (id_cmp (key x) p) refl (begun_split xs sorted.1)
    where
      by : (o : Ordering) → id_cmp (key x) p ≡ o → begun xs ≡ filter (begins_with p) (own_first (is_some (find is_own xs)) p (map key (filter is_past xs)))
          → begun (x ∷ xs) ≡ filter (begins_with p) (own_first (is_some (find is_own (x ∷ xs))) p (map key (filter is_past (x ∷ xs))))
      by Less e rest = rw (not_before p (key x) e, same_is (key x) p, e) rest
      by Equal e rest = let is = equal_is (key x) p e in rw (is, begins_itself p, same_is p p, own_equal p, all_past xs (past_own x is xs sorted.0), begins_itself p) refl
      by Greater e rest =
          let past = past_one x e xs sorted.0 in
          rw (all_past (x ∷ xs) (e, past), none_own (x ∷ xs) (e, past)) refl
