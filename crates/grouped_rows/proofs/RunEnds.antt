-- Where the rows of a key end, looked for among the first of the rows that don't come before it.
use Rattle.std.proofs.Common.{◌≡◌, ◌∙◌, sym, ap, ℕ, ◌+◌, ◌-◌, ◌<◌, ◌≤◌, true, false, List, length, take, drop, get_or, refl, Option, ◌⊎◌, inl, inr, arith, get_or-drop, get_or-take, length-drop, length-take, Ordering, Less, Equal, Greater, is_le, is_lt}
use Rattle.std.proofs.lemmas.Bool.{cases_lt}
use Rattle.std.specs.Cmp.{IsTotalOrder}
use Rattle.std.specs.List.Sorted.{IsPartitionedBy}
use Rattle.std.specs.Option.{option_cmp}
use Rattle.std.specs.Ordering.{ordering_index}
use Rattle.grouped_rows.specs.{EndsAt, Rises, StartsAt, rows_of}
use Rattle.grouped_rows.proofs.BinarySearch.{adjacent, found_between, get_or-any, rising, upto_first}

behind_still : (a b : Ordering) → ordering_index a ≤ ordering_index b → is_le a ≡ false → is_le b ≡ false
behind_still Less b h e = cc
behind_still Equal b h e = cc
behind_still Greater Less h e = absurd (omega arith)
behind_still Greater Equal h e = absurd (omega arith)
behind_still Greater Greater h e = refl

before_upto : (a : Ordering) → is_lt a ≡ true → is_le a ≡ true
before_upto Less e = refl
before_upto Equal e = cc
before_upto Greater e = cc

module _ {R K : Type 0} (cmp : K → K → Ordering) (key_of : R → Option K) (rows : List R) (key : K) where
  -- after the first rows comes one that is after the key, so they end where the first of them do
  pub ends_among : IsTotalOrder cmp → Rises cmp key_of rows → (most : ℕ) → most < length rows → (row : R) → row ≡ get_or rows most row → is_le (adjacent cmp key_of key row) ≡ false
      → (end : ℕ) → end ≤ most → EndsAt cmp key_of (take most rows) key end → EndsAt cmp key_of rows key end
  ends_among total rises most within row is behind end short ends = (
    λ k d z h. ap (λ r. is_le (adjacent cmp key_of key r)) (sym (get_or-take most rows k d (omega arith))) ∙ ends.0 k d z h,
    λ k d low h. by k d low h (cases_lt k most),
  )
    where
      by : (k : ℕ) (d : R) → end ≤ k → k < length rows → (k < most) ⊎ (most ≤ k) → is_le (adjacent cmp key_of key (get_or rows k d)) ≡ false
      by k d low h (inl l) = ap (λ r. is_le (adjacent cmp key_of key r)) (sym (get_or-take most rows k d l)) ∙ ends.1 k d low (omega (arith, length-take most rows))
      by k d low h (inr l) = behind_still _ _ (rising cmp total key_of rows key rises most k d l h) (ap (λ r. is_le (adjacent cmp key_of key r)) (get_or-any rows most d row within ∙ sym is) ∙ behind)

  -- among the first rows too those that don't come after the key are first
  pub upto_among : IsTotalOrder cmp → Rises cmp key_of rows → (most : ℕ) → IsPartitionedBy (λ r. is_le (adjacent cmp key_of key r)) (take most rows)
  upto_among total rises most i j d low h e =
      let within : j < most = omega (arith, h, length-take most rows) in
      ap (λ r. is_le (adjacent cmp key_of key r)) (get_or-take most rows i d (omega arith))
      ∙ upto_first cmp total key_of rows key rises i j d low (omega (arith, h, length-take most rows)) (ap (λ r. is_le (adjacent cmp key_of key r)) (sym (get_or-take most rows j d within)) ∙ e)

  -- rows that rise do so from a position on
  pub rises_from : (start : ℕ) → Rises cmp key_of rows → Rises cmp key_of (drop start rows)
  rises_from start rises k d z h =
      let next : start + (k + 1) ≡ (start + k) + 1 = omega arith in
      let later : get_or (drop start rows) (k + 1) d ≡ get_or rows ((start + k) + 1) d = get_or-drop start rows (k + 1) d ∙ ap (λ n. get_or rows n d) next in
      (λ i. is_lt (option_cmp cmp (key_of (later i)) (key_of (get_or-drop start rows k d i)))) ∙ rises (start + k) d (omega arith) (omega (arith, length-drop start rows))

  ends_behind : (start count : ℕ) → StartsAt cmp key_of rows key start → EndsAt cmp key_of (drop start rows) key count → EndsAt cmp key_of rows key (start + count)
  ends_behind start count from till = (
    λ k d z h. by k d h (cases_lt k start),
    λ k d low h. ap (λ r. is_le (adjacent cmp key_of key r)) (sym (there k d (omega arith))) ∙ till.1 (k - start) d (omega arith) (omega (arith, length-drop start rows)),
  )
    where
      there : (k : ℕ) (d : R) → start ≤ k → get_or (drop start rows) (k - start) d ≡ get_or rows k d
      there k d l = let same : start + (k - start) ≡ k = omega arith in get_or-drop start rows (k - start) d ∙ ap (λ n. get_or rows n d) same

      by : (k : ℕ) (d : R) → k < start + count → (k < start) ⊎ (start ≤ k) → is_le (adjacent cmp key_of key (get_or rows k d)) ≡ true
      by k d h (inl l) = before_upto _ (from.0 k d (omega arith) l)
      by k d h (inr l) = ap (λ r. is_le (adjacent cmp key_of key r)) (sym (there k d l)) ∙ till.0 (k - start) d (omega arith) (omega arith)

  -- the rows of a key are so many from their start on
  pub found_from : (start count : ℕ) → StartsAt cmp key_of rows key start → EndsAt cmp key_of (drop start rows) key count → take count (drop start rows) ≡ rows_of cmp key_of rows key
  found_from start count from till =
      let long : (start + count) - start ≡ count = omega arith in
      ap (λ n. take n (drop start rows)) (sym long) ∙ found_between cmp key_of rows key start (start + count) (omega arith) from (ends_behind start count from till)
