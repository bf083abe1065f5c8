-- The rows of a key among rows whose keys rise, found by halves.
use Rattle.std.proofs.Common.{◌≡◌, ◌∙◌, sym, ap, ℕ, zero, suc, ◌-◌, ◌<◌, ◌≤◌, true, false, List, [], ◌∷◌, length, refl, take, drop, get_or, Option, Some, None, find, ◌⊎◌, inl, inr, arith, Ordering, Less, Equal, Greater, is_eq, is_le, is_lt}
use Rattle.std.proofs.lemmas.Bool.{cases_lt}
use Rattle.std.specs.Cmp.{IsTotalOrder}
use Rattle.std.specs.Cmp.Lexicographic.{options_total}
use Rattle.std.specs.List.Sorted.{IsPartitionedBy, IsPartitionPoint, IsNonDecreasingBy}
use Rattle.std.specs.Option.{option_cmp}
use Rattle.std.specs.Ordering.{ordering_index}
use Rattle.std.proofs.lemmas.List.Sorted.{searchable_from_sorted}
use Rattle.grouped_rows.specs.{Rises, StartsAt, is_keyed, rows_of}
use Rattle.grouped_rows.proofs.FilteredRows.{passes_between, find_none, find_at}

lt_down : (a b : Ordering) → ordering_index a ≤ ordering_index b → is_lt b ≡ true → is_lt a ≡ true
lt_down Less b h e = refl
lt_down Equal Less h e = absurd (omega arith)
lt_down Equal Equal h e = cc
lt_down Equal Greater h e = cc
lt_down Greater Less h e = absurd (omega arith)
lt_down Greater Equal h e = cc
lt_down Greater Greater h e = cc

le_down : (a b : Ordering) → ordering_index a ≤ ordering_index b → is_le b ≡ true → is_le a ≡ true
le_down Less b h e = refl
le_down Equal b h e = refl
le_down Greater Less h e = absurd (omega arith)
le_down Greater Equal h e = absurd (omega arith)
le_down Greater Greater h e = cc

-- how a row's key compares with this one
abbrev pub adjacent : {R K : Type 0} → (K → K → Ordering) → (R → Option K) → K → R → Ordering
adjacent cmp key_of key r = option_cmp cmp (key_of r) (Some key)

keyed_foreign_tables : {K : Type 0} (cmp : K → K → Ordering) (a : Option K) (key : K) → is_keyed cmp a key ≡ is_eq (option_cmp cmp a (Some key))
keyed_foreign_tables cmp None key = refl
keyed_foreign_tables cmp (Some j) key = refl

eq_lt : (o : Ordering) → is_lt o ≡ true → is_eq o ≡ false
eq_lt Less e = refl
eq_lt Equal e = cc
eq_lt Greater e = refl

eq_le : (o : Ordering) → is_lt o ≡ false → is_le o ≡ true → is_eq o ≡ true
eq_le Less e h = cc
eq_le Equal e h = refl
eq_le Greater e h = cc

eq_gt : (o : Ordering) → is_le o ≡ false → is_eq o ≡ false
eq_gt Less e = cc
eq_gt Equal e = cc
eq_gt Greater e = refl

pub rising : {R K : Type 0} (cmp : K → K → Ordering) → IsTotalOrder cmp → (key_of : R → Option K) (rows : List R) (key : K) → Rises cmp key_of rows → IsNonDecreasingBy (λ r. ordering_index (adjacent cmp key_of key r)) rows
rising cmp o key_of rows key rises = searchable_from_sorted (options_total o) key_of rows (Some key) rises

pub before_first : {R K : Type 0} (cmp : K → K → Ordering) → IsTotalOrder cmp → (key_of : R → Option K) (rows : List R) (key : K) → Rises cmp key_of rows → IsPartitionedBy (λ r. is_lt (adjacent cmp key_of key r)) rows
before_first cmp o key_of rows key rises i j d h l e = lt_down _ _ (rising cmp o key_of rows key rises i j d h l) e

pub upto_first : {R K : Type 0} (cmp : K → K → Ordering) → IsTotalOrder cmp → (key_of : R → Option K) (rows : List R) (key : K) → Rises cmp key_of rows → IsPartitionedBy (λ r. is_le (adjacent cmp key_of key r)) rows
upto_first cmp o key_of rows key rises i j d h l e = le_down _ _ (rising cmp o key_of rows key rises i j d h l) e

pub found_between : {R K : Type 0} (cmp : K → K → Ordering) (key_of : R → Option K) (rows : List R) (key : K) (start end : ℕ) → start ≤ end →
    IsPartitionPoint (λ r. is_lt (adjacent cmp key_of key r) ≡ true) (λ r. is_lt (adjacent cmp key_of key r) ≡ false) rows start →
    IsPartitionPoint (λ r. is_le (adjacent cmp key_of key r) ≡ true) (λ r. is_le (adjacent cmp key_of key r) ≡ false) rows end →
    take (end - start) (drop start rows) ≡ rows_of cmp key_of rows key
found_between cmp key_of rows key start end turn from till = sym (passes_between (λ r. is_keyed cmp (key_of r) key) rows start end turn
    (λ k d h l. keyed_foreign_tables cmp (key_of (get_or rows k d)) key ∙ eq_lt _ (from.0 k d (omega arith) h))
    (λ k d h i l. keyed_foreign_tables cmp (key_of (get_or rows k d)) key ∙ eq_le _ (from.1 k d h l) (till.0 k d (omega arith) i))
    (λ k d h l. keyed_foreign_tables cmp (key_of (get_or rows k d)) key ∙ eq_gt _ (till.1 k d h l)))

gt_up : (a b : Ordering) → ordering_index a ≤ ordering_index b → is_lt a ≡ false → is_eq a ≡ false → is_eq b ≡ false
gt_up Less b h e f = cc
gt_up Equal b h e f = cc
gt_up Greater Less h e f = absurd (omega arith)
gt_up Greater Equal h e f = absurd (omega arith)
gt_up Greater Greater h e f = refl

pub get_or-any : {R : Type 0} (rows : List R) (n : ℕ) (d e : R) → n < length rows → get_or rows n d ≡ get_or rows n e
get_or-any [] n d e h = absurd (omega arith)
get_or-any (r ∷ rows) zero d e h = refl
get_or-any (r ∷ rows) (suc n) d e h = get_or-any rows n d e (omega arith)

-- ---- the first row of a key

pub all_before : {R K : Type 0} (cmp : K → K → Ordering) (key_of : R → Option K) (rows : List R) (key : K) (start : ℕ) → StartsAt cmp key_of rows key start → length rows ≤ start → find (λ r. is_keyed cmp (key_of r) key) rows ≡ None
all_before cmp key_of rows key start from h = find_none (λ r. is_keyed cmp (key_of r) key) rows
    (λ k d l. keyed_foreign_tables cmp (key_of (get_or rows k d)) key ∙ eq_lt _ (from.0 k d (omega arith) (omega arith)))

pub first_there : {R K : Type 0} (cmp : K → K → Ordering) (key_of : R → Option K) (rows : List R) (key : K) (start : ℕ) → StartsAt cmp key_of rows key start → start < length rows → (row : R) → row ≡ get_or rows start row →
    is_keyed cmp (key_of row) key ≡ true → find (λ r. is_keyed cmp (key_of r) key) rows ≡ Some row
first_there cmp key_of rows key start from h row is e = find_at (λ r. is_keyed cmp (key_of r) key) rows start row h
    (λ k d l. keyed_foreign_tables cmp (key_of (get_or rows k d)) key ∙ eq_lt _ (from.0 k d (omega arith) l))
    (ap (λ r. is_keyed cmp (key_of r) key) (sym is) ∙ e) ∙ ap (λ r. Some r) (sym is)

pub none_there : {R K : Type 0} (cmp : K → K → Ordering) → IsTotalOrder cmp → (key_of : R → Option K) (rows : List R) (key : K) → Rises cmp key_of rows → (start : ℕ) → StartsAt cmp key_of rows key start → start < length rows → (row : R) → row ≡ get_or rows start row →
    is_keyed cmp (key_of row) key ≡ false → find (λ r. is_keyed cmp (key_of r) key) rows ≡ None
none_there {R} cmp o key_of rows key rises start from h row is e = find_none (λ r. is_keyed cmp (key_of r) key) rows (λ k d l. keyed_foreign_tables cmp (key_of (get_or rows k d)) key ∙ by k d l (cases_lt k start))
  where
    by : (k : ℕ) (d : R) → k < length rows → (k < start) ⊎ (start ≤ k) → is_eq (adjacent cmp key_of key (get_or rows k d)) ≡ false
    by k d l (inl before) = eq_lt _ (from.0 k d (omega arith) before)
    by k d l (inr behind) = gt_up _ _ (rising cmp o key_of rows key rises start k d behind l) (from.1 start d (omega arith) h)
        (sym (keyed_foreign_tables cmp (key_of (get_or rows start d)) key) ∙ ap (λ r. is_keyed cmp (key_of r) key) (get_or-any rows start d row h ∙ sym is) ∙ e)
