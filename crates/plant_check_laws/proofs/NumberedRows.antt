-- Rows that are numbered one after the other.
use Rattle.std.proofs.Common.{◌≡◌, ◌∙◌, ℕ, ◌+◌, ◌≤◌, Bool, true, List, [], ◌∷◌, map, filter, find, Option, Some, None, is_some, refl, sym, ap, arith, Decides, eq-eqb}
use Rattle.std.specs.List.{AllByRecursion}
use Rattle.std.proofs.lemmas.Bool.{false≢true, and_from}
use Rattle.plant_view.proofs.ListLemmas.{found_passes, found_keeps, all_weaker, all_unmapped}
use Rattle.plant_view.specs.{numbered}
use Rattle.plant_requirements.specs.{are_numbered}
use Rattle.plant_invariant.specs.{AreCounted}
use Rattle.plant_invariant.proofs.AppendKeepsOrder.{all_passing}
use Rattle.plant_check_laws.proofs.ExactTests.{equal_exact, both, all_apart}

pub counted_exact : (k : ℕ) (ns : List ℕ) → Decides (are_numbered k ns) (AreCounted k ns)
counted_exact k [] = ((λ e. tt), (λ c. refl))
counted_exact k (n ∷ ns) = both (equal_exact n k) (counted_exact (k + 1) ns)

counted_low : (k : ℕ) (ns : List ℕ) → AreCounted k ns → AllByRecursion (λ n. k ≤ n) ns
counted_low k [] c = tt
counted_low k (n ∷ ns) c = (omega (arith, c.0), all_weaker (λ m. k + 1 ≤ m) (λ m. k ≤ m) (λ m h. omega (arith, h)) ns (counted_low (k + 1) ns c.1))

-- ---- rows of lines

module _ {L R : Type 0} (f : ℕ → L → R) (number : R → ℕ) (line : R → L) (Own : R → Type 0) (made : (r : R) → Own r → f (number r) (line r) ≡ r) (is_numbered : (k : ℕ) (l : L) → number (f k l) ≡ k) where
  numbered_rows : (k : ℕ) (rs : List R) → AllByRecursion Own rs → AreCounted k (map number rs) → rs ≡ numbered f k (map line rs)
  numbered_rows k [] own c = refl
  numbered_rows k (r ∷ rs) own c =
      let here : r ≡ f k (line r) = sym (made r own.0) ∙ ap (λ n. f n (line r)) c.0 in
      let rest = numbered_rows (k + 1) rs own.1 c.1 in
      λ i. here i ∷ rest i

  numbers_pass : (k : ℕ) (ls : List L) → are_numbered k (map number (numbered f k ls)) ≡ true
  numbers_pass k [] = refl
  numbers_pass k (l ∷ ls) = and_from _ _ (eq-eqb (number (f k l)) k (is_numbered k l)) (numbers_pass (k + 1) ls)

  -- they are numbered one after the other just where they are those of their lines
  pub rows_exact : (k : ℕ) (rs : List R) → AllByRecursion Own rs → Decides (are_numbered k (map number rs)) (rs ≡ numbered f k (map line rs))
  rows_exact k rs own = ((λ e. numbered_rows k rs own ((counted_exact k (map number rs)).0 e)), (λ e. ap (λ (xs : List R). are_numbered k (map number xs)) e ∙ numbers_pass k (map line rs)))

-- ---- rows of owners

module _ {O R : Type 0} (own : O → R → Bool) (has_owner : R → O → Bool) (owns : (o : O) (r : R) → has_owner r o ≡ true → own o r ≡ true) where
  -- what holds of the rows of each owner holds of all, where each has an owner
  of_owned : (P : R → Type 0) (owners : List O) (rows : List R) → AllByRecursion (λ o. AllByRecursion (λ r. own o r ≡ true → P r) rows) owners → AllByRecursion (λ r. is_some (find (has_owner r) owners) ≡ true) rows → AllByRecursion P rows
  of_owned P owners [] each owned = tt
  of_owned P owners (r ∷ rows) each owned =
      let parts = all_apart (λ o. own o r ≡ true → P r) (λ o. AllByRecursion (λ r. own o r ≡ true → P r) rows) owners each in
      (by (find (has_owner r) owners) refl owned.0 parts.0, of_owned P owners rows parts.1 owned.1)
    where
      by : (f : Option O) → find (has_owner r) owners ≡ f → is_some f ≡ true → AllByRecursion (λ o. own o r ≡ true → P r) owners → P r
      by None e there first = absurd (false≢true there)
      by (Some o) e there first = found_keeps (λ o. own o r ≡ true → P r) (has_owner r) owners o first e (owns o r (found_passes (has_owner r) owners o e))

  -- where the rows of each owner are numbered, and each row has an owner, each has a number
  pub owned_numbers : (number : R → ℕ) (owners : List O) (rows : List R) → AllByRecursion (λ o. are_numbered 1 (map number (filter (own o) rows)) ≡ true) owners → AllByRecursion (λ r. is_some (find (has_owner r) owners) ≡ true) rows → AllByRecursion (λ r. 1 ≤ number r) rows
  owned_numbers number owners rows numbers = of_owned (λ r. 1 ≤ number r) owners rows (all_weaker (λ o. are_numbered 1 (map number (filter (own o) rows)) ≡ true) _ low owners numbers)
    where
      low : (o : O) → are_numbered 1 (map number (filter (own o) rows)) ≡ true → AllByRecursion (λ r. own o r ≡ true → 1 ≤ number r) rows
      low o e = all_passing (λ r. 1 ≤ number r) (own o) rows (all_unmapped (λ n. 1 ≤ n) number (filter (own o) rows) (counted_low 1 _ ((counted_exact 1 _).0 e)))
