-- Texts compare as their rooms do, and where the rooms are equal by their lengths.
use Rattle.std.proofs.Common.{◌≡◌, ℕ, zero, suc, ◌+◌, ◌-◌, List, [], ◌∷◌, ◌++◌, length, take, replicate, refl, sym, ap, ◌∙◌, arith, length-append, nat_cmp, Less, Equal, Greater}
use Rattle.std.proofs.lemmas.List.{length-replicate}
use Rattle.std.proofs.lemmas.Bool.Decides.{nat_tests}
use Rattle.std.specs.Cmp.{nat_cmp_is}
use Rattle.std.specs.Cmp.Lexicographic.{slice_cmp}
use Rattle.std.specs.Ordering.{ordering_then}
use Rattle.plant_values.specs.{IsPadded, length_back, padded_back}
use Rattle.plant_values.proofs.BytesCompareAsNumbers.{then_assoc}

zero_first : (k : ℕ) → nat_cmp 0 (suc k) ≡ Less
zero_first k = sym (nat_cmp_is 0 (suc k) Less (omega arith))

zero_last : (k : ℕ) → nat_cmp (suc k) 0 ≡ Greater
zero_last k = sym (nat_cmp_is (suc k) 0 Greater (omega arith))

-- no room comes before that of zeros
zeros_first : (n : ℕ) (ys : List ℕ) → n ≡ length ys → ordering_then (slice_cmp nat_cmp (replicate n 0) ys) Less ≡ Less
zeros_first zero [] e = refl
zeros_first zero (y ∷ ys) e = absurd (omega arith)
zeros_first (suc n) [] e = absurd (omega arith)
zeros_first (suc n) (zero ∷ ys) e = zeros_first n ys (omega arith)
zeros_first (suc n) (suc y ∷ ys) e = ap (λ r. ordering_then (ordering_then r (slice_cmp nat_cmp (replicate n 0) ys)) Less) (zero_first y)

not_before_zeros : (n : ℕ) (xs : List ℕ) → length xs ≡ n → ordering_then (slice_cmp nat_cmp xs (replicate n 0)) Greater ≡ Greater
not_before_zeros zero [] e = refl
not_before_zeros zero (x ∷ xs) e = absurd (omega arith)
not_before_zeros (suc n) [] e = absurd (omega arith)
not_before_zeros (suc n) (zero ∷ xs) e = not_before_zeros n xs (omega arith)
not_before_zeros (suc n) (suc x ∷ xs) e = ap (λ r. ordering_then (ordering_then r (slice_cmp nat_cmp xs (replicate n 0))) Greater) (zero_last x)

same_zeros : (m n : ℕ) → m ≡ n → slice_cmp nat_cmp (replicate m 0) (replicate n 0) ≡ Equal
same_zeros zero zero e = refl
same_zeros zero (suc n) e = absurd (omega arith)
same_zeros (suc m) zero e = absurd (omega arith)
same_zeros (suc m) (suc n) e = same_zeros m n (omega arith)

one_longer : (k l : ℕ) → nat_cmp (suc k) (suc l) ≡ nat_cmp k l
one_longer k l = grind (arith, nat_tests)

-- zeros after two texts, up to one length
module _ (m n : ℕ) where
  with_zeros : (xs ys : List ℕ) → length xs + m ≡ length ys + n
      → ordering_then (slice_cmp nat_cmp (xs ++ replicate m 0) (ys ++ replicate n 0)) (nat_cmp (length xs) (length ys)) ≡ slice_cmp nat_cmp xs ys
  with_zeros [] [] e = ap (λ r. ordering_then r Equal) (same_zeros m n (omega arith))
  with_zeros [] (y ∷ ys) e =
      ap (ordering_then (slice_cmp nat_cmp (replicate m 0) (y ∷ (ys ++ replicate n 0)))) (zero_first (length ys))
      ∙ zeros_first m (y ∷ (ys ++ replicate n 0)) (omega (arith, length-append ys (replicate n 0), length-replicate {A = ℕ} n 0))
  with_zeros (x ∷ xs) [] e =
      ap (ordering_then (slice_cmp nat_cmp (x ∷ (xs ++ replicate m 0)) (replicate n 0))) (zero_last (length xs))
      ∙ not_before_zeros n (x ∷ (xs ++ replicate m 0)) (omega (arith, length-append xs (replicate m 0), length-replicate {A = ℕ} m 0))
  with_zeros (x ∷ xs) (y ∷ ys) e =
      then_assoc (nat_cmp x y) (slice_cmp nat_cmp (xs ++ replicate m 0) (ys ++ replicate n 0)) (nat_cmp (suc (length xs)) (suc (length ys)))
      ∙ ap (λ r. ordering_then (nat_cmp x y) (ordering_then (slice_cmp nat_cmp (xs ++ replicate m 0) (ys ++ replicate n 0)) r)) (one_longer (length xs) (length ys))
      ∙ ap (ordering_then (nat_cmp x y)) (with_zeros xs ys (omega arith))

module _ (n k l : ℕ) (xs ys : List ℕ) (p : IsPadded n k xs) (q : IsPadded n l ys) where
  pub padded_cmp : ordering_then (slice_cmp nat_cmp xs ys) (nat_cmp k l) ≡ slice_cmp nat_cmp (take k xs) (take l ys)
  padded_cmp =
      let a = length_back n k xs p in
      let b = length_back n l ys q in
      (λ t. ordering_then (slice_cmp nat_cmp (sym (padded_back n k xs p) t) (sym (padded_back n l ys q) t)) (nat_cmp (sym a t) (sym b t)))
      ∙ with_zeros (n - length (take k xs)) (n - length (take l ys)) (take k xs) (take l ys) (omega (arith, a, b, p.within, q.within))
