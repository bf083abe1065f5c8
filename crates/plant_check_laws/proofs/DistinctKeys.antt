-- Elements that are apart: none has the key of another, so each is found by its own.
use Rattle.std.proofs.Common.{◌≡◌, ◌∙◌, ℕ, Bool, true, false, cond, List, [], ◌∷◌, Some, filter, find, length, refl, sym, ap, arith, Ordering, Less, is_eq}
use Rattle.std.specs.List.{AllByRecursion}
use Rattle.std.specs.List.Sorted.{IsStrictlySortedBy}
use Rattle.std.proofs.lemmas.Cmp.{nat_list_eq_equiv}
use Rattle.plant_base.specs.{same, id_cmp}
use Rattle.plant_view.proofs.ListLemmas.{all_weaker, all_two, none_left}
use Rattle.plant_requirements.proofs.KeyTests.{ids_tie}

-- where one passes it is the one that is found
pub found_left : {X : Type 0} (test : X → Bool) (xs : List X) (x : X) (ys : List X) → filter test xs ≡ x ∷ ys → find test xs ≡ Some x
found_left test [] x ys e = absurd cc
found_left {X} test (z ∷ zs) x ys e = elim (test z) as (λ b. cond b (z ∷ filter test zs) (filter test zs) ≡ x ∷ ys → cond b (Some z) (find test zs) ≡ Some x) [
  | true ↦ λ f. cc
  | false ↦ λ f. found_left test zs x ys f
] e

-- where none that passes is counted each fails
none_counted : {X : Type 0} (test : X → Bool) (xs : List X) → length (filter test xs) ≡ 0 → AllByRecursion (λ x. test x ≡ false) xs
none_counted test [] e = tt
none_counted test (x ∷ xs) e = by (test x) refl e (none_counted test xs)
  where
    by : (b : Bool) → test x ≡ b → length (cond b (x ∷ filter test xs) (filter test xs)) ≡ 0 → (length (filter test xs) ≡ 0 → AllByRecursion (λ y. test y ≡ false) xs) → (test x ≡ false) × AllByRecursion (λ y. test y ≡ false) xs
    by true t f more = absurd (omega (arith, f))
    by false t f more = (t, more f)

-- ---- elements that are apart

module _ {X : Type 0} (has_key_of : X → X → Bool) where
  -- no element has the key of another
  abbrev pub AreApart : List X → Type 0
  AreApart [] = Unit {0}
  AreApart (x ∷ xs) = AllByRecursion (λ y. (has_key_of x y ≡ false) × (has_key_of y x ≡ false)) xs × AreApart xs

  -- each is the only one with its key
  pub one_left : ((x : X) → has_key_of x x ≡ true) → (xs : List X) → AreApart xs → AllByRecursion (λ x. filter (has_key_of x) xs ≡ x ∷ []) xs
  one_left own [] apart = tt
  one_left own (x ∷ xs) apart =
      let others = none_left (has_key_of x) xs (all_weaker _ _ (λ y a. a.0) xs apart.0) in
      let first : filter (has_key_of x) (x ∷ xs) ≡ x ∷ [] = ap (λ b. cond b (x ∷ filter (has_key_of x) xs) (filter (has_key_of x) xs)) (own x) ∙ ap (λ ys. x ∷ ys) others in
      (first, all_two _ _ _ (λ y a e. ap (λ b. cond b (x ∷ filter (has_key_of y) xs) (filter (has_key_of y) xs)) a.1 ∙ e) xs apart.0 (one_left own xs apart.1))

  -- ascending elements are
  pub apart_sorted : (order : X → X → Ordering) → ((x y : X) → order x y ≡ Less → (has_key_of x y ≡ false) × (has_key_of y x ≡ false)) → (xs : List X) → IsStrictlySortedBy order xs → AreApart xs
  unfolding IsStrictlySortedBy
  apart_sorted order h [] sorted = tt
  apart_sorted order h (x ∷ xs) sorted = (all_weaker _ _ (λ y less. h x y less) xs sorted.0, apart_sorted order h xs sorted.1)

  -- and the one that is found by it
  pub one_found : ((x : X) → has_key_of x x ≡ true) → (xs : List X) → AreApart xs → AllByRecursion (λ x. find (has_key_of x) xs ≡ Some x) xs
  one_found own xs apart = all_weaker _ _ (λ x left. found_left (has_key_of x) xs x [] left) xs (one_left own xs apart)

  -- where each is the only one with its key they are
  pub apart_alone : ((x : X) → has_key_of x x ≡ true) → ((x y : X) → has_key_of x y ≡ has_key_of y x) → (xs : List X) → AllByRecursion (λ x. length (filter (has_key_of x) xs) ≡ 1) xs → AreApart xs
  apart_alone own symm [] alone = tt
  apart_alone own symm (x ∷ xs) alone =
      let others = none_counted (has_key_of x) xs (single (own x) alone.0) in (
        all_weaker _ _ (λ y other. (other, symm y x ∙ other)) xs others,
        apart_alone own symm xs (all_two _ _ _ (λ y other one. ap (λ b. length (cond b (x ∷ filter (has_key_of y) xs) (filter (has_key_of y) xs))) (sym (symm y x ∙ other)) ∙ one) xs others alone.1),
      )
    where
      single : {b : Bool} → b ≡ true → length (cond b (x ∷ filter (has_key_of x) xs) (filter (has_key_of x) xs)) ≡ 1 → length (filter (has_key_of x) xs) ≡ 0
      single e one = let count = ap (λ b. length (cond b (x ∷ filter (has_key_of x) xs) (filter (has_key_of x) xs))) (sym e) ∙ one in omega (arith, count)

-- ids in their order are two
pub ids_apart : (a b : List ℕ) → id_cmp a b ≡ Less → (same a b ≡ false) × (same b a ≡ false)
ids_apart a b less =
    let apart : same a b ≡ false = sym (ids_tie a b) ∙ ap is_eq less in
    (apart, nat_list_eq_equiv.symm b a ∙ apart)
