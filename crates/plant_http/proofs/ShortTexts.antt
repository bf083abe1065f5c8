-- How long a text is at most.
use Rattle.std.proofs.Common.{◌≡◌, ◌≤◌, ◌&&◌, Bool, true, false, ℕ, List, length, nat_le, refl, arith}
use Rattle.std.specs.List.{list_all}
use Rattle.std.proofs.lemmas.Bool.Decides.{nat_tests}
use Rattle.plant_base.specs.{is_text, is_text_byte}

first_test : (a b : Bool) → (a && b) ≡ true → a ≡ true
first_test true b h = refl
first_test false b h = h

pub text_is_short : (bs : List ℕ) → is_text bs ≡ true → length bs ≤ 60
text_is_short bs h = let short = first_test (nat_le (length bs) 60) (list_all is_text_byte bs) h in grind (arith, nat_tests, short)
