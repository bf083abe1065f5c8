-- Rows by a key.
use Rattle.std.specs.Prelude.{◌≡◌, ℕ, Bool, true, false, List, filter, Option, Some, None, Vec, IsSortedByKey}
use Rattle.std.specs.declared.cmp.Ordering.{Ordering}
use Rattle.std.specs.declared.alloc.Global.{Global}
use Rattle.std.specs.List.Sorted.{IsPartitionPoint}
use Rattle.std.specs.Option.{option_cmp}
use Rattle.std.specs.Ordering.{is_eq, is_le, is_lt}

-- the key that a row has, if it has one, is this one
abbrev pub is_keyed : {K : Type 0} → (K → K → Ordering) → Option K → K → Bool
is_keyed cmp None k = false
is_keyed cmp (Some j) k = is_eq (cmp j k)

-- the rows of a key
abbrev pub rows_of : {K R : Type 0} → (K → K → Ordering) → (R → Option K) → List R → K → List R
rows_of cmp key_of rows k = filter (λ r. is_keyed cmp (key_of r) k) rows

-- no row's key is less than that of the row before it; those without a key come first
abbrev pub Rises : {K R : Type 0} → (K → K → Ordering) → (R → Option K) → List R → Type 0
Rises cmp key_of rows = IsSortedByKey key_of (option_cmp cmp) rows

-- at each key the rows are the same, in the same order
abbrev pub HasRows : {K R : Type 0} → (K → K → Ordering) → (R → Option K) → List R → List R → Type 0
HasRows {K} cmp key_of rows found = (k : K) → rows_of cmp key_of found k ≡ rows_of cmp key_of rows k

-- the rows that are searched: the copy, or where there is none the rows themselves
abbrev pub searched : {R : Type 0} → List R → Option (Vec R Global) → List R
searched rows None = rows
searched rows (Some copy) = copy.items

-- the list can be searched for the rows of a key
pub record Searchable {K R : Type 0} (cmp : K → K → Ordering) (key_of : R → Option K) (rows found : List R) : Type 0 where
  pub rises : Rises cmp key_of found
  pub same : HasRows cmp key_of rows found

-- the rows before this position have a lesser key, those from it on none
abbrev pub StartsAt : {K R : Type 0} → (K → K → Ordering) → (R → Option K) → List R → K → ℕ → Type 0
StartsAt cmp key_of rows key start = IsPartitionPoint (λ r. is_lt (option_cmp cmp (key_of r) (Some key)) ≡ true) (λ r. is_lt (option_cmp cmp (key_of r) (Some key)) ≡ false) rows start

-- the rows before this position have no greater key, those from it on have one
abbrev pub EndsAt : {K R : Type 0} → (K → K → Ordering) → (R → Option K) → List R → K → ℕ → Type 0
EndsAt cmp key_of rows key end = IsPartitionPoint (λ r. is_le (option_cmp cmp (key_of r) (Some key)) ≡ true) (λ r. is_le (option_cmp cmp (key_of r) (Some key)) ≡ false) rows end
