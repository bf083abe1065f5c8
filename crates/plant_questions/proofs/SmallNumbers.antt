-- Numbers of few digits are small.
use Rattle.std.proofs.Common.{◌≡◌, ℕ, ◌<◌, ◌≤◌, ◌^◌, Bool, true, false, ◌&&◌, cond, List, length, Option, Some, None, nat_le, refl, ap, subst, arith}
use Rattle.std.specs.Char.{is_ascii_digit}
use Rattle.std.specs.List.{list_all}
use Rattle.std.specs.Str.Parse.{digits_value}
use Rattle.std.proofs.lemmas.Bool.Decides.{nat_tests}
use Rattle.std.proofs.lemmas.Str.Parse.{digits_value_short, numerals_by_value, tells_all_ascii_digits}
use Rattle.plant_base.specs.{digits_of}

abbrev or_zero : Option ℕ → ℕ
or_zero None = 0
or_zero (Some n) = n

by_tests : (text : List ℕ) (n : ℕ) (a b c : Bool) → nat_le (length text) 3 ≡ b → list_all is_ascii_digit text ≡ c → cond ((a && b) && c) (Some (digits_value 10 text)) None ≡ Some n → n < 10 ^ 3
by_tests text n true true true short digits is =
    let few : length text ≤ 3 = grind (arith, nat_tests) in
    subst (λ m. m < 10 ^ 3) (ap or_zero is) (digits_value_short (numerals_by_value _ tells_all_ascii_digits) text 3 digits few)
by_tests text n false b c short digits is = absurd cc
by_tests text n true false c short digits is = absurd cc
by_tests text n true true false short digits is = absurd cc

-- a number of at most 3 digits
pub small : (text : List ℕ) (n : ℕ) → digits_of 3 text ≡ Some n → n < 10 ^ 3
unfolding digits_of
small text n is = by_tests text n (nat_le 1 (length text)) (nat_le (length text) 3) (list_all is_ascii_digit text) refl refl is
