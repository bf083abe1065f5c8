-- Counts of those that pass two tests.
use Rattle.std.proofs.Common.{◌≡◌, ◌∙◌, Bool, true, false, cond, List, [], ◌∷◌, length, refl, ap, sym, ◌&&◌, filter, count_by}
use Rattle.std.proofs.lemmas.List.Sums.{length-filter}

both : {X : Type 0} (p q : X → Bool) (xs : List X) → filter q (filter p xs) ≡ filter (λ x. p x && q x) xs
both p q [] = refl
both {X} p q (x ∷ xs) = elim (p x) as (λ b. filter q (cond b (x ∷ filter p xs) (filter p xs)) ≡ cond (b && q x) (x ∷ filter (λ y. p y && q y) xs) (filter (λ y. p y && q y) xs)) [
  | true ↦ ap (λ ys. cond (q x) (x ∷ ys) ys) (both p q xs)
  | false ↦ both p q xs
]

-- those that pass the second among those that pass the first are those that pass both
pub counted_among : {X : Type 0} (p q : X → Bool) (xs : List X) → count_by q (filter p xs) ≡ length (filter (λ x. p x && q x) xs)
counted_among p q xs = sym (length-filter q (filter p xs)) ∙ ap length (both p q xs)
