-- The page of a list is that of its prefix, one row longer than a page.
use Rattle.std.proofs.Common.{◌≡◌, ◌∙◌, ◌+◌, ℕ, suc, Bool, List, map, filter, take, length, nat_lt, sym, ap, arith}
use Rattle.plant_questions.proofs.FoundRows.{of_mapped, take_mapped}
use Rattle.plant_questions.specs.{page_of, page_size}
use Rattle.std.proofs.lemmas.Grind.{common_steps}

shorter : {X : Type 0} (n : ℕ) (xs : List X) → take n (take (suc n) xs) ≡ take n xs
shorter n xs = grind (common_steps, arith)

as_long : {X : Type 0} (n : ℕ) (xs : List X) → nat_lt n (length (take (suc n) xs)) ≡ nat_lt n (length xs)
as_long n xs = grind (common_steps, arith)

page_of_prefix : {X : Type 0} (xs : List X) → page_of (take (page_size + 1) xs) ≡ page_of xs
page_of_prefix xs = λ i. record { rows = shorter page_size xs i; has_more = as_long page_size xs i }

-- of rows that are made each of another
pub prefix_of_mapped : {X Y : Type 0} (f : X → Y) (p : Y → Bool) (q : X → Bool) → ((x : X) → p (f x) ≡ q x) → (xs : List X) → page_of (map f (take (page_size + 1) (filter q xs))) ≡ page_of (filter p (map f xs))
prefix_of_mapped f p q tests xs = ap page_of (sym (take_mapped f (page_size + 1) (filter q xs))) ∙ page_of_prefix (map f (filter q xs)) ∙ ap page_of (sym (of_mapped f p q tests xs))
