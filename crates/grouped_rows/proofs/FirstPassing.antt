-- Whether a test passes an element of a list.
use Rattle.std.proofs.Common.{◌≡◌, ◌∙◌, sym, ap, Bool, true, false, List, [], ◌∷◌, cond, refl, Some, find, slice_get, filter, ◌||◌, is_some}
use Rattle.std.specs.List.{list_any}

-- some element passes where one is found
pub some_found : {X : Type 0} (p : X → Bool) (xs : List X) → is_some (find p xs) ≡ list_any p xs
some_found p [] = refl
some_found {X} p (x ∷ xs) = elim (p x) as (λ b. is_some (cond b (Some x) (find p xs)) ≡ (b || list_any p xs)) [
  | true ↦ refl
  | false ↦ some_found p xs
]

-- the first of those that pass is the one that is found
pub first_found : {X : Type 0} (p : X → Bool) (xs : List X) → slice_get (filter p xs) 0 ≡ find p xs
first_found p [] = refl
first_found {X} p (x ∷ xs) = elim (p x) as (λ b. slice_get (cond b (x ∷ filter p xs) (filter p xs)) 0 ≡ cond b (Some x) (find p xs)) [
  | true ↦ refl
  | false ↦ first_found p xs
]

-- where the same pass, the same is found
pub found_alike : {X : Type 0} (p : X → Bool) (xs ys : List X) → filter p xs ≡ filter p ys → find p xs ≡ find p ys
found_alike p xs ys e = sym (first_found p xs) ∙ ap (λ l. slice_get l 0) e ∙ first_found p ys
