-- Rows that were made of others, and what holds of them.
use Rattle.std.proofs.Common.{◌≡◌, List, [], ◌∷◌, map, Option, Some, None, refl, filter_map}
use Rattle.std.specs.List.{AllByRecursion, cons_option}

-- what was gathered of rows has what their own facts give it
pub all_gathered : {X Y : Type 0} (f : X → Option Y) (P : X → Type 0) (Q : Y → Type 0) (keeps : (x : X) (y : Y) → f x ≡ Some y → P x → Q y) (xs : List X) → AllByRecursion P xs → AllByRecursion Q (filter_map f xs)
all_gathered f P Q keeps [] a = tt
all_gathered {X} {Y} f P Q keeps (x ∷ xs) a = by (f x) refl (all_gathered f P Q keeps xs a.1)
  where
    by : (o : Option Y) → f x ≡ o → AllByRecursion Q (filter_map f xs) → AllByRecursion Q (cons_option o (filter_map f xs))
    by None e more = more
    by (Some y) e more = (keeps x y e a.0, more)

-- rows that were parted from their columns get them back
pub joined_again : {X Y : Type 0} (part : X → Y) (whole : Y → X) (xs : List X) → AllByRecursion (λ x. whole (part x) ≡ x) xs → map whole (map part xs) ≡ xs
joined_again part whole [] a = refl
joined_again part whole (x ∷ xs) a = let rest = joined_again part whole xs a.1 in λ i. a.0 i ∷ rest i
