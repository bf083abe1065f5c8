-- The tests that lookups by a key make.
use Rattle.std.proofs.Common.{◌≡◌, ℕ, Bool, true, false, cond, List, [], ◌∷◌, Some, is_some, find, refl, sym, ◌==◌, ◌&&◌, ◌||◌, nat_cmp, is_eq}
use Rattle.std.specs.List.{list_any}
use Rattle.std.specs.Cmp.{both_tied, unsigned_ties}
use Rattle.std.specs.Cmp.Lexicographic.{slice_cmp, texts_ties}
use Rattle.plant_base.specs.{same, id_cmp, numbered_cmp}

-- two ids tie where they are one
pub ids_tie : (a b : List ℕ) → is_eq (id_cmp a b) ≡ same a b
ids_tie a b = sym (texts_ties a b)

-- and so do ids with numbers
pub pairs_tie : (a b : List ℕ) (m n : ℕ) → is_eq (numbered_cmp a m b n) ≡ (same a b && m == n)
pairs_tie a b m n = sym (both_tied _ _ (slice_cmp nat_cmp a b) (nat_cmp m n) (texts_ties a b) (unsigned_ties m n))

-- one is found where some element passes
pub found_any : {X : Type 0} (p : X → Bool) (xs : List X) → is_some (find p xs) ≡ list_any p xs
found_any p [] = refl
found_any {X} p (x ∷ xs) = elim (p x) as (λ b. is_some (cond b (Some x) (find p xs)) ≡ (b || list_any p xs)) [
  | true ↦ refl
  | false ↦ found_any p xs
]
