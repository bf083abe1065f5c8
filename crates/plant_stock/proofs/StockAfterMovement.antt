-- What one more movement does to the stock.
use Rattle.std.proofs.Common.{◌≡◌, ℕ, ◌+◌, List, [], ◌∷◌, ◌++◌, refl, arith, sum_by}
use Rattle.std.specs.List.{AllByRecursion}
use Rattle.std.proofs.lemmas.List.Sums.{sum_by_push, sum_by-cons}
use Rattle.plant_base.specs.{Movement}
use Rattle.plant_stock.specs.{entered, left, entering, leaving}

pub entered_push : (ms : List Movement) (m : Movement) (lot : List ℕ) (number : ℕ) → entered (ms ++ m ∷ []) lot number ≡ entered ms lot number + entering m lot number
unfolding entered
entered_push ms m lot number = sum_by_push (λ m. entering m lot number) ms m

pub left_push : (ms : List Movement) (m : Movement) (lot : List ℕ) (number : ℕ) → left (ms ++ m ∷ []) lot number ≡ left ms lot number + leaving m lot number
unfolding left
left_push ms m lot number = sum_by_push (λ m. leaving m lot number) ms m

sum_by_zero : {X : Type 0} (f : X → ℕ) (xs : List X) → AllByRecursion (λ x. f x ≡ 0) xs → sum_by f xs ≡ 0
sum_by_zero f [] a = refl
sum_by_zero f (x ∷ xs) a = omega (arith, sum_by-cons f x xs, a.0, sum_by_zero f xs a.1)

-- a sublot that no movement names has had nothing
pub entered_nothing : (ms : List Movement) (lot : List ℕ) (number : ℕ) → AllByRecursion (λ m. entering m lot number ≡ 0) ms → entered ms lot number ≡ 0
unfolding entered
entered_nothing ms lot number a = sum_by_zero (λ m. entering m lot number) ms a

pub left_nothing : (ms : List Movement) (lot : List ℕ) (number : ℕ) → AllByRecursion (λ m. leaving m lot number ≡ 0) ms → left ms lot number ≡ 0
unfolding left
left_nothing ms lot number a = sum_by_zero (λ m. leaving m lot number) ms a
