-- What is found of a list's rows, and of what is made of each.
use Rattle.std.proofs.Common.{◌≡◌, ◌∙◌, ℕ, zero, suc, Bool, true, false, cond, List, [], ◌∷◌, map, filter, find, take, Some, refl, ap, slice_get}

-- the first that passes is what is found
pub first_is : {X : Type 0} (p : X → Bool) (xs : List X) → slice_get (filter p xs) 0 ≡ find p xs
first_is p [] = refl
first_is p (x ∷ xs) = elim (p x) as (λ b. slice_get (cond b (x ∷ filter p xs) (filter p xs)) 0 ≡ cond b (Some x) (find p xs)) [
  | true ↦ refl
  | false ↦ first_is p xs
]

-- of what is made of each, those that pass are what is made of those that pass
module _ {X Y : Type 0} (f : X → Y) (p : Y → Bool) (q : X → Bool) (tests : (x : X) → p (f x) ≡ q x) where
  pub of_mapped : (xs : List X) → filter p (map f xs) ≡ map f (filter q xs)
  of_mapped [] = refl
  of_mapped (x ∷ xs) =
      ap (λ b. cond b (f x ∷ filter p (map f xs)) (filter p (map f xs))) (tests x)
      ∙ elim (q x) as (λ b. cond b (f x ∷ filter p (map f xs)) (filter p (map f xs)) ≡ map f (cond b (x ∷ filter q xs) (filter q xs))) [
        | true ↦ ap (λ l. f x ∷ l) (of_mapped xs)
        | false ↦ of_mapped xs
      ]

pub take_mapped : {X Y : Type 0} (f : X → Y) (n : ℕ) (xs : List X) → take n (map f xs) ≡ map f (take n xs)
take_mapped f zero xs = refl
take_mapped f (suc n) [] = refl
take_mapped f (suc n) (x ∷ xs) = ap (λ l. f x ∷ l) (take_mapped f n xs)
