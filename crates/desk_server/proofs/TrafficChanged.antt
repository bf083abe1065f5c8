-- What is at a place of a list of connections, where one of them changed or one was added.
use Rattle.std.proofs.Common.{◌≡◌, ◌≢◌, ◌⊎◌, ℕ, zero, suc, List, [], ◌∷◌, ◌++◌, length, Some, refl, inl, inr}
use Rattle.std.specs.List.{slice_get}
use Rattle.desk_server.specs.Traffic.{Traffic, changed_at}

pub changed_there : (f : Traffic → Traffic) (n : ℕ) (all : List Traffic) (c : Traffic) → slice_get all n ≡ Some c → slice_get (changed_at f n all) n ≡ Some (f c)
changed_there f n [] c at = absurd (cc)
changed_there f zero (x ∷ all) c at = cc
changed_there f (suc n) (x ∷ all) c at = changed_there f n all c at

pub changed_elsewhere : (f : Traffic → Traffic) (n m : ℕ) (all : List Traffic) → m ≢ n → slice_get (changed_at f n all) m ≡ slice_get all m
changed_elsewhere f n m [] other = refl
changed_elsewhere f zero zero (x ∷ all) other = absurd (other refl)
changed_elsewhere f zero (suc m) (x ∷ all) other = refl
changed_elsewhere f (suc n) zero (x ∷ all) other = refl
changed_elsewhere f (suc n) (suc m) (x ∷ all) other = changed_elsewhere f n m all (λ same. other (cc))

-- what is there now was there before, or is what was changed
pub changed_back : (f : Traffic → Traffic) (n m : ℕ) (all : List Traffic) (d : Traffic) → slice_get (changed_at f n all) m ≡ Some d
    → (slice_get all m ≡ Some d) ⊎ ((m ≡ n) × (c : Traffic) × (slice_get all m ≡ Some c) × (d ≡ f c))
changed_back f n m [] d at = inl at
changed_back f zero zero (x ∷ all) d at = inr (refl, x, refl, cc)
changed_back f zero (suc m) (x ∷ all) d at = inl at
changed_back f (suc n) zero (x ∷ all) d at = inl at
changed_back f (suc n) (suc m) (x ∷ all) d at = elim (changed_back f n m all d at) [
  | inl it ↦ inl it
  | inr it ↦ inr (cc, it.1, it.2, it.3)
]

-- what was there is there still, or is what was changed
pub changed_forth : (f : Traffic → Traffic) (n m : ℕ) (all : List Traffic) (c : Traffic) → slice_get all m ≡ Some c
    → (slice_get (changed_at f n all) m ≡ Some c) ⊎ ((m ≡ n) × (slice_get (changed_at f n all) m ≡ Some (f c)))
changed_forth f n m [] c at = inl at
changed_forth f zero zero (x ∷ all) c at = inr (refl, cc)
changed_forth f zero (suc m) (x ∷ all) c at = inl at
changed_forth f (suc n) zero (x ∷ all) c at = inl at
changed_forth f (suc n) (suc m) (x ∷ all) c at = elim (changed_forth f n m all c at) [
  | inl it ↦ inl it
  | inr it ↦ inr (cc, it.1)
]

-- ---- one added after the others

pub added_before : (all : List Traffic) (x : Traffic) (m : ℕ) (c : Traffic) → slice_get all m ≡ Some c → slice_get (all ++ x ∷ []) m ≡ Some c
added_before [] x m c at = absurd (cc)
added_before (y ∷ all) x zero c at = at
added_before (y ∷ all) x (suc m) c at = added_before all x m c at

pub added_last : (all : List Traffic) (x : Traffic) → slice_get (all ++ x ∷ []) (length all) ≡ Some x
added_last [] x = refl
added_last (y ∷ all) x = added_last all x

pub added_back : (all : List Traffic) (x : Traffic) (m : ℕ) (d : Traffic) → slice_get (all ++ x ∷ []) m ≡ Some d → (slice_get all m ≡ Some d) ⊎ ((m ≡ length all) × (d ≡ x))
added_back [] x zero d at = inr (refl, cc)
added_back [] x (suc m) d at = absurd (cc)
added_back (y ∷ all) x zero d at = inl at
added_back (y ∷ all) x (suc m) d at = elim (added_back all x m d at) [
  | inl it ↦ inl it
  | inr it ↦ inr (cc, it.1)
]
