-- A number right in its places, as a format with a width writes it.
use Rattle.std.proofs.Common.{◌≡◌, ℕ, zero, suc, ◌-◌, ◌^◌, false, List, [], ◌∷◌, ◌++◌, length, replicate, refl, ap, arith, append-nil, decimal}
use Rattle.std.specs.List.{repeat}
use Rattle.std.specs.Fmt.{padded_integral, format_spec, char_count}
use lib.Utf8.{encode}
use Rattle.plant_text_answers.specs.{right_in}

blanks : (n : ℕ) → repeat {A = ℕ} n (32 ∷ []) ≡ replicate n 32
blanks zero = refl
blanks (suc n) = ap (λ (l : List ℕ). 32 ∷ l) (blanks n)

padded : (k : ℕ) (digits : List ℕ) → ((repeat {A = ℕ} (k - 0 - 0) (32 ∷ []) ++ [] ++ []) ++ []) ++ (digits ++ repeat {A = ℕ} (k - 0 - 0 - (k - 0 - 0)) (32 ∷ [])) ≡ replicate k 32 ++ digits
padded k digits =
    let all : k - 0 - 0 ≡ k = omega arith in
    let none : k - k ≡ 0 = omega arith in
    rw (all, none, blanks k) (simp append-nil)

pub right_in_three : (n : ℕ) → padded_integral (format_spec 32 3 0 3 (2 ^ 64 - 1)) false [] (decimal n) ≡ right_in 3 n
unfolding padded_integral char_count right_in encode
right_in_three n = padded (3 - length (decimal n)) (decimal n)

pub right_in_six : (n : ℕ) → padded_integral (format_spec 32 3 0 6 (2 ^ 64 - 1)) false [] (decimal n) ≡ right_in 6 n
unfolding padded_integral char_count right_in encode
right_in_six n = padded (6 - length (decimal n)) (decimal n)
