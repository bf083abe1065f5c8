-- A row that is reported as earlier than one of a lower number breaks the rule of moments.
use Rattle.std.proofs.Common.{◌≡◌, ℕ, Bool, true, false, List, [], ◌∷◌, ◌++◌, map, Option, Some, None, IfSome, refl, sym, arith, subst, append_assoc, ◌&&◌}
use Rattle.std.proofs.lemmas.Bool.Decides.{nat_tests}
use Rattle.std.specs.List.{list_all}
use Rattle.plant_requirements.specs.{is_no_later, never_fall}
use Rattle.plant_check.specs.{fault_unless, or_fault, RowFault, fall_fault_in}

abbrev Mark : Type 0
Mark = ℕ × ℕ

-- ---- two marks of a list, of which the second is earlier

-- one that fails fails the test of all
fails_first : {X : Type 0} (p : X → Bool) (xs ys : List X) (x : X) → p x ≡ false → list_all p (xs ++ x ∷ ys) ≡ false
fails_first p [] ys x e = rw e refl
fails_first p (z ∷ xs) ys x e = at (p z) (fails_first p xs ys x e)
  where
    at : (b : Bool) → list_all p (xs ++ x ∷ ys) ≡ false → (b && list_all p (xs ++ x ∷ ys)) ≡ false
    at true rest = rest
    at false rest = refl

-- two neighbours of a list, the second of which is earlier than the first and has a higher number
neighbours_fail : (xs ys : List Mark) (a b : Mark) → is_no_later a b ≡ false → never_fall (xs ++ a ∷ b ∷ ys) ≡ false
neighbours_fail xs ys a b e = fails_first (λ c. list_all (is_no_later c) (xs ++ a ∷ b ∷ ys)) xs (b ∷ ys) a (own xs)
  where
    own : (zs : List Mark) → list_all (is_no_later a) (zs ++ a ∷ b ∷ ys) ≡ false
    own zs = subst (λ l. list_all (is_no_later a) l ≡ false) (append_assoc zs (a ∷ []) (b ∷ ys)) (fails_first (is_no_later a) (zs ++ a ∷ []) ys b e)

-- no row is earlier than none
from_start : (b : Mark) → is_no_later (0, 0) b ≡ true
from_start b = grind (arith, nat_tests)

-- ---- rows by their numbers and moments

module _ {R : Type 0} (time_key_of : R → Mark) (early : Mark → R → RowFault) where
  -- where one of them is reported, after these marks and before those
  fall_after : (xs : List Mark) (before : Mark) (rs : List R) (rest : List Mark)
      → IfSome (fall_fault_in time_key_of early before rs) (λ _. never_fall (xs ++ before ∷ (map time_key_of rs ++ rest)) ≡ false)
  fall_after xs before [] rest = tt
  fall_after xs before (r ∷ rs) rest = at (fall_after (xs ++ before ∷ []) (time_key_of r) rs rest) (is_no_later before (time_key_of r)) refl
    where
      behind : List Mark
      behind = map time_key_of rs ++ rest

      at : IfSome (fall_fault_in time_key_of early (time_key_of r) rs) (λ _. never_fall ((xs ++ before ∷ []) ++ time_key_of r ∷ behind) ≡ false) → (b : Bool) → is_no_later before (time_key_of r) ≡ b
          → IfSome (or_fault (fault_unless b (early before r)) (fall_fault_in time_key_of early (time_key_of r) rs)) (λ _. never_fall (xs ++ before ∷ time_key_of r ∷ behind) ≡ false)
      at later false e = neighbours_fail xs behind before (time_key_of r) e
      at later true e = subst (λ l. IfSome (fall_fault_in time_key_of early (time_key_of r) rs) (λ _. never_fall l ≡ false)) (append_assoc xs (before ∷ []) (time_key_of r ∷ behind)) later

  fall_breaks : (xs : List Mark) (rs : List R) (rest : List Mark) → IfSome (fall_fault_in time_key_of early (0, 0) rs) (λ _. never_fall (xs ++ (map time_key_of rs ++ rest)) ≡ false)
  fall_breaks xs [] rest = tt
  fall_breaks xs (r ∷ rs) rest = rw (from_start (time_key_of r)) (fall_after xs (time_key_of r) rs rest)

  -- a row that is reported breaks the rule, whatever other rows there are
  pub reported_breaks : (o : Option RowFault) (rs : List R) → o ≡ fall_fault_in time_key_of early (0, 0) rs → IfSome o (λ _. (xs rest : List Mark) → never_fall (xs ++ (map time_key_of rs ++ rest)) ≡ false)
  reported_breaks None rs is = tt
  reported_breaks (Some f) rs is = λ xs rest. (rw (sym is) at (fall_breaks xs rs rest))
