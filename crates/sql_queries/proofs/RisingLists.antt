-- A list stays in the order of its key.
use Rattle.std.proofs.Common.{◌≡◌, ℕ, Bool, true, false, nat_lt, ◌≤◌, List, [], ◌∷◌, ◌++◌, ◌+◌, ◌-◌, ◌<◌, length, get_or, length-append, refl, inl, inr, ◌⊎◌, arith}
use Rattle.std.proofs.lemmas.List.{get_or_append_left}
use Rattle.std.proofs.Math.Seq.{get_or-append_seam}
use Rattle.sql_queries.specs.Rises.{Rises}

pub split : (k n : ℕ) → k < n + 1 → (k < n) ⊎ (k ≡ n)
split k n h = go (nat_lt k n) refl
  where
    go : (b : Bool) → nat_lt k n ≡ b → (k < n) ⊎ (k ≡ n)
    go true e = inl (grind (arith, e))
    go false e =
        let over : n ≤ k = grind (arith, e) in
        inr (omega arith)

pub rises_more : {X : Type 0} (before : X → X → Bool) (xs : List X) (x : X) → Rises before xs → ((d : X) → 0 < length xs → before (get_or xs (length xs - 1) d) x ≡ true) → Rises before (xs ++ x ∷ [])
rises_more before xs x rise last k d low =
    elim (split (k + 1) (length xs) (omega (arith, length-append xs (x ∷ [])))) [
      | inl inner ↦
          let here : k < length xs = omega arith in
          rw (get_or_append_left xs (x ∷ []) d k here, get_or_append_left xs (x ∷ []) d (k + 1) inner) (rise k d inner)
      | inr at ↦
          let here : k < length xs = omega arith in
          let back : k ≡ length xs - 1 = omega arith in
          rw (get_or_append_left xs (x ∷ []) d k here, at, get_or-append_seam xs x [] d, back) (last d (omega arith))
    ]
