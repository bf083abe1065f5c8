-- Marks in the order of their numbers and moments: the moments don't fall as the numbers rise where none falls below the
-- one before it.
use Rattle.std.proofs.Common.{◌≡◌, ◌∙◌, ℕ, suc, ◌+◌, ◌<◌, ◌≤◌, Bool, true, false, List, [], ◌∷◌, length, refl, sym, ap, subst, inl, inr, arith, slice_index_or, ◌⊎◌, ◌&&◌, nat_le, IsPermutation, IsSorted, Ordering, Less, Equal, nat_cmp, is_lt, leb-true, le-leb}
use Rattle.std.specs.Prelude.{⊤}
use Rattle.std.specs.List.{AllByRecursion, list_all}
use Rattle.std.specs.Ordering.{ordering_then}
use Rattle.std.specs.Cmp.{nat_cmp_is}
use Rattle.std.proofs.lemmas.Bool.{false≢true, and_from, cases_lt, cases_eq}
use Rattle.std.proofs.lemmas.Bool.Decides.{nat_tests}
use Rattle.std.proofs.lemmas.List.Sums.{AllPass-from_list_all, list_all-from_AllPass}
use Rattle.std.proofs.lemmas.List.Sorted.{All-permutation, IsPermutation-sym}
use Rattle.std.proofs.lemmas.Map.Keys.{ge_from_not_lt}
use Rattle.plant_view.proofs.ListLemmas.{all_weaker, all_two, each_passes, and_left, and_right}
use Rattle.plant_requirements.specs.{is_no_later, never_fall, rises}

abbrev Mark : Type 0
Mark = ℕ × ℕ

-- ---- tests

same_truth : (a b : Bool) → (a ≡ true → b ≡ true) → (b ≡ true → a ≡ true) → a ≡ b
same_truth true b f g = sym (f refl)
same_truth false true f g = g refl
same_truth false false f g = refl

permuted : {X : Type 0} (p : X → Bool) (xs ys : List X) → IsPermutation xs ys → list_all p xs ≡ list_all p ys
permuted p xs ys m = same_truth _ _
    (λ e. list_all-from_AllPass p ys (All-permutation (λ x. p x ≡ true) xs ys m (AllPass-from_list_all p xs e)))
    (λ e. list_all-from_AllPass p xs (All-permutation (λ x. p x ≡ true) ys xs (IsPermutation-sym xs ys m) (AllPass-from_list_all p ys e)))

never_fall_permuted : (xs ys : List Mark) → IsPermutation xs ys → never_fall xs ≡ never_fall ys
never_fall_permuted xs ys m = (λ i. list_all (λ a. permuted (is_no_later a) xs ys m i) xs) ∙ permuted (λ a. list_all (is_no_later a) ys) xs ys m

-- ---- the order

abbrev lex : Mark → Mark → Ordering
lex a b = ordering_then (nat_cmp a.0 b.0) (nat_cmp a.1 b.1)

-- of a higher number, or of the same and no earlier
abbrev IsAfter : Mark → Mark → Type 0
IsAfter a b = (a.0 < b.0) ⊎ ((a.0 ≡ b.0) × (a.1 ≤ b.1))

after : (a b : Mark) → is_lt (lex b a) ≡ false → IsAfter a b
after a b e = at (cases_lt a.0 b.0)
  where
    equal : (a.0 ≡ b.0) ⊎ (a.0 ≡ b.0 → ⊥) → b.0 ≤ a.0 → IsAfter a b
    equal (inl s) low =
        let tie : Equal ≡ nat_cmp b.0 a.0 = nat_cmp_is b.0 a.0 Equal (sym s) in
        inr (s, ge_from_not_lt b.1 a.1 (ap (λ o. is_lt (ordering_then o (nat_cmp b.1 a.1))) tie ∙ e))
    equal (inr differ) low =
        let apart : b.0 < a.0 = omega (arith, low, differ) in
        let less : Less ≡ nat_cmp b.0 a.0 = nat_cmp_is b.0 a.0 Less apart in
        absurd (false≢true (sym e ∙ ap (λ o. is_lt (ordering_then o (nat_cmp b.1 a.1))) (sym less)))

    at : (a.0 < b.0) ⊎ (b.0 ≤ a.0) → IsAfter a b
    at (inl h) = inl h
    at (inr h) = equal (cases_eq a.0 b.0) h

then_after : (a b c : Mark) → IsAfter a b → IsAfter b c → IsAfter a c
then_after a b c (inl h) (inl k) = inl (omega (arith, h, k))
then_after a b c (inl h) (inr k) = inl (omega (arith, h, k.0))
then_after a b c (inr h) (inl k) = inl (omega (arith, h.0, k))
then_after a b c (inr h) (inr k) = inr (h.0 ∙ k.0, omega (arith, h.1, k.1))

-- each is after the one before it
abbrev Chain : Mark → List Mark → Type 0
Chain x [] = ⊤
Chain x (y ∷ ys) = IsAfter x y × Chain y ys

chained : (x : Mark) (xs : List Mark) → IsSorted lex (x ∷ xs) → Chain x xs
chained x [] s = tt
chained x (y ∷ ys) s = (
  after x y (s 0 x (omega arith) (omega arith)),
  chained y ys (λ k d low high.
      let next : suc k + 1 ≡ suc (k + 1) = omega arith in
      let within : suc k + 1 < length (x ∷ y ∷ ys) = omega (arith, high) in
      subst (λ (n : ℕ). is_lt (lex (slice_index_or (x ∷ y ∷ ys) n d) (slice_index_or (y ∷ ys) k d)) ≡ false) next (s (suc k) d (omega arith) within)),
)

all_after : (x y : Mark) (xs : List Mark) → IsAfter x y → Chain y xs → AllByRecursion (IsAfter x) xs
all_after x y [] h c = tt
all_after x y (z ∷ zs) h c = let k = then_after x y z h c.0 in (k, all_after x z zs k c.1)

-- ---- in that order

later : (x : Mark) (xs : List Mark) → Chain x xs → AllByRecursion (IsAfter x) xs
later x [] c = tt
later x (y ∷ ys) c = (c.0, all_after x y ys c.0 c.1)

-- no mark is later than one of a higher number, seen from the front
abbrev Fine : List Mark → Type 0
Fine [] = ⊤
Fine (x ∷ xs) = AllByRecursion (λ b. is_no_later x b ≡ true) xs × AllByRecursion (λ a. is_no_later a x ≡ true) xs × Fine xs

higher : (low x : ℕ) (ys : List Mark) → low ≤ x → AllByRecursion (λ (b : Mark). x ≤ b.1) ys → AllByRecursion (λ (b : Mark). low ≤ b.1) ys
higher low x ys h a = all_weaker _ _ (λ (b : Mark) l. omega (arith, h, l)) ys a

above : (low : ℕ) (xs : List Mark) → rises low xs ≡ true → AllByRecursion (λ (b : Mark). low ≤ b.1) xs
above low [] e = tt
above low (x ∷ xs) e =
    let first = leb-true low x.1 (and_left (nat_le low x.1) (rises x.1 xs) e) in
    (first, higher low x.1 xs first (above x.1 xs (and_right (nat_le low x.1) (rises x.1 xs) e)))

-- a mark that is no earlier is no later one's
no_later : (a b : Mark) → a.1 ≤ b.1 → is_no_later a b ≡ true
no_later a b h = grind (arith, nat_tests)

-- nor is one of no lower number
no_lower : (a b : Mark) → b.0 ≤ a.0 → is_no_later a b ≡ true
no_lower a b h = grind (arith, nat_tests)

-- a mark of a lower number that is not later
not_later : (a b : Mark) → is_no_later a b ≡ true → a.0 < b.0 → a.1 ≤ b.1
not_later a b e h = grind (arith, nat_tests)

number_below : (x a : Mark) → IsAfter x a → x.0 ≤ a.0
number_below x a (inl h) = omega (arith, h)
number_below x a (inr h) = omega (arith, h.0)

prefixes : (x : Mark) (xs : List Mark) → AllByRecursion (λ (b : Mark). x.1 ≤ b.1) xs → AllByRecursion (λ b. is_no_later x b ≡ true) xs
prefixes x xs a = all_weaker _ _ (λ (y : Mark) h. no_later x y h) xs a

backs : (x : Mark) (xs : List Mark) → AllByRecursion (IsAfter x) xs → AllByRecursion (λ a. is_no_later a x ≡ true) xs
backs x xs a = all_weaker _ _ (λ (y : Mark) h. no_lower y x (number_below x y h)) xs a

-- where the moments rise all is fine
fine_risen : (x : Mark) (xs : List Mark) → Chain x xs → rises x.1 xs ≡ true → Fine (x ∷ xs)
fine_risen x [] c e = (tt, tt, tt)
fine_risen x (y ∷ ys) c e = (prefixes x (y ∷ ys) (above x.1 (y ∷ ys) e), backs x (y ∷ ys) (later x (y ∷ ys) c), fine_risen y ys c.1 (and_right (nat_le x.1 y.1) (rises y.1 ys) e))

-- and where all is fine they rise
risen : (x : Mark) (xs : List Mark) → Chain x xs → Fine (x ∷ xs) → rises x.1 xs ≡ true
risen x [] c f = refl
risen x (y ∷ ys) c f = and_from (nat_le x.1 y.1) (rises y.1 ys) (le-leb x.1 y.1 (step c.0)) (risen y ys c.1 f.2)
  where
    step : IsAfter x y → x.1 ≤ y.1
    step (inl h) = not_later x y f.0.0 h
    step (inr h) = h.1

-- ---- the same as tests

test_of : {X : Type 0} (p : X → Bool) (xs : List X) → AllByRecursion (λ x. p x ≡ true) xs → list_all p xs ≡ true
test_of p [] a = refl
test_of p (x ∷ xs) a = and_from (p x) (list_all p xs) a.0 (test_of p xs a.1)

fine_of : (xs : List Mark) → never_fall xs ≡ true → Fine xs
fine_of [] e = tt
fine_of (x ∷ xs) e =
    let prefix = and_left (list_all (is_no_later x) (x ∷ xs)) (list_all (λ a. is_no_later a x && list_all (is_no_later a) xs) xs) e in
    let back = and_right (list_all (is_no_later x) (x ∷ xs)) (list_all (λ a. is_no_later a x && list_all (is_no_later a) xs) xs) e in
    let each = each_passes (λ a. is_no_later a x && list_all (is_no_later a) xs) xs back in (
      each_passes (is_no_later x) xs (and_right (is_no_later x x) (list_all (is_no_later x) xs) prefix),
      all_weaker _ _ (λ (a : Mark) own. and_left (is_no_later a x) (list_all (is_no_later a) xs) own) xs each,
      fine_of xs (test_of (λ a. list_all (is_no_later a) xs) xs (all_weaker _ _ (λ (a : Mark) own. and_right (is_no_later a x) (list_all (is_no_later a) xs) own) xs each)),
    )

of_fine : (xs : List Mark) → Fine xs → never_fall xs ≡ true
of_fine [] f = refl
of_fine (x ∷ xs) f =
    and_from (list_all (is_no_later x) (x ∷ xs)) _
    (and_from (is_no_later x x) (list_all (is_no_later x) xs) (no_lower x x (omega arith)) (test_of (is_no_later x) xs f.0))
    (test_of (λ a. is_no_later a x && list_all (is_no_later a) xs) xs
    (all_two _ _ _ (λ (a : Mark) own rest. and_from (is_no_later a x) (list_all (is_no_later a) xs) own rest) xs f.1 (each_passes (λ a. list_all (is_no_later a) xs) xs (of_fine xs f.2))))

-- ---- a list and the same in order

rises_in_order : (xs : List Mark) → IsSorted lex xs → rises 0 xs ≡ never_fall xs
rises_in_order [] s = refl
rises_in_order (x ∷ xs) s =
    let c = chained x xs s in
    same_truth (rises 0 (x ∷ xs)) (never_fall (x ∷ xs))
    (λ e. of_fine (x ∷ xs) (fine_risen x xs c (and_right (nat_le 0 x.1) (rises x.1 xs) e)))
    (λ e. and_from (nat_le 0 x.1) (rises x.1 xs) (le-leb 0 x.1 (omega arith)) (risen x xs c (fine_of (x ∷ xs) e)))

pub rising : (xs ys : List Mark) → IsPermutation xs ys → IsSorted lex ys → rises 0 ys ≡ never_fall xs
rising xs ys m s = rises_in_order ys s ∙ sym (never_fall_permuted xs ys m)
