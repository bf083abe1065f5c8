-- A page of a table of a valid state is the first of the rows that pass.
use Rattle.std.proofs.Common.{◌≡◌, ◌∙◌, ◌≤◌, ◌+◌, ℕ, zero, suc, Bool, true, false, List, [], ◌∷◌, map, filter, take, length, nat_lt, Option, Some, refl, sym, ap, subst, arith, IsSorted, IsPermutation, is_lt, Ordering, Less, Equal, Greater}
use Rattle.std.specs.List.{AllByRecursion}
use Rattle.std.specs.List.Sorted.{IsStrictlySortedBy}
use Rattle.std.specs.Cmp.{IsTotalOrder}
use Rattle.std.specs.Ordering.{ordering_reverse}
use Rattle.std.proofs.lemmas.Bool.{false≢true}
use Rattle.std.proofs.lemmas.Bool.Decides.{nat_tests}
use Rattle.std.proofs.lemmas.Cmp.{then_total, on_total}
use Rattle.std.proofs.lemmas.List.{length-map}
use Rattle.std.proofs.lemmas.List.Kept.{IsStrictlySortedBy-filter}
use Rattle.std.proofs.lemmas.List.Sorted.{IsPermutation-sym, IsPermutation-trans, IsPermutation-map, length_permutation}
use Rattle.sqlite.specs.Effect.{Database}
use Rattle.sqlite.specs.Order.{Row, column}
use Rattle.sqlite.specs.declared.types.Value.TheVariants.{Null}
use Rattle.sqlite_value.proofs.OrderLemmas.{value_cmp_total}
use Rattle.sqlite_trees.proofs.ListLemmas.{IsPermutation-filter, all-permutation}
use Rattle.plant_base.specs.{put}
use Rattle.sql_tables.specs.{TableDef, columns_of, HasStoredRows}
use Rattle.sql_queries.proofs.RowsUpToOrder.{one_tree}
use Rattle.sql_queries.specs.{IsPage, is_beyond, stored_order}
use Rattle.plant_tables.proofs.RowChangeIsTableChange.{all_filter}
use Rattle.plant_tables_columns.specs.{all_from}
use Rattle.plant_tables_columns.proofs.OptionalValues.{some_same}
use Rattle.plant_tables.proofs.SortedRowsAreUnique.{sorted_keys}
use Rattle.plant_tables.proofs.AllRowsDecoded.{map_same, all_again}
use Rattle.plant_questions.specs.{in_order, page_size, page_of, Page}
use Rattle.plant_keyed.specs.{IsPaged}
use Rattle.plant_keyed.proofs.SortedPermutationIsUnique.{IsOnce, again_in_order, kept_in_order, ordered}
use Rattle.plant_questions.proofs.FoundRows.{of_mapped, take_mapped}

stored_total : (places : List ℕ) → IsTotalOrder (stored_order places)
stored_total [] = record { antisymm = λ a b. refl; trans = λ a b c less more. less; congr = λ a b c same. refl }
stored_total (place ∷ places) = then_total (on_total (λ (row : Row). column (Null ∷ row) place) value_cmp_total) (stored_total places)

module _ {R : Type 0} (order : R → R → Ordering) (total : IsTotalOrder order) where
  put_by : (y : R) (z : R) (zs : List R) → length (put order y (z ∷ zs)) ≡ suc (length (z ∷ zs)) → is_lt (order z y) ≡ false → (o : Ordering) → order y z ≡ o → put order y (z ∷ zs) ≡ y ∷ z ∷ zs
  put_by y z zs long after Less e = rw e refl
  put_by y z zs long after Equal e = absurd (let same = rw e at long in omega (arith, same))
  put_by y z zs long after Greater e =
      let back : order z y ≡ Less = total.antisymm z y ∙ ap ordering_reverse e in
      absurd (false≢true (sym after ∙ ap is_lt back))

  short_by : (y z : R) (zs : List R) → length (put order y zs) ≤ suc (length zs) → (o : Ordering) → order y z ≡ o → length (put order y (z ∷ zs)) ≤ suc (length (z ∷ zs))
  short_by y z zs less Less e = rw e (omega arith)
  short_by y z zs less Equal e = rw e (omega arith)
  short_by y z zs less Greater e = rw e (omega (arith, less))

  short : (y : R) (zs : List R) → length (put order y zs) ≤ suc (length zs)
  short y [] = omega arith
  short y (z ∷ zs) = short_by y z zs (short y zs) (order y z) refl

  no_longer : (ys : List R) → length (in_order order ys) ≤ length ys
  no_longer [] = omega arith
  no_longer (y ∷ ys) = let one = short y (in_order order ys) in let more = no_longer ys in omega (arith, one, more)

  first_put : (y : R) (ys : List R) → IsSorted order (y ∷ ys) → length (put order y ys) ≡ suc (length ys) → put order y ys ≡ y ∷ ys
  first_put y [] sorted long = refl
  first_put y (z ∷ zs) sorted long = put_by y z zs long (sorted 0 y (omega arith) (omega arith)) (order y z) refl

  -- rows in order that have no key twice stay as they are
  pub stays_in_order : (ys : List R) → IsSorted order ys → length (in_order order ys) ≡ length ys → in_order order ys ≡ ys
  stays_in_order [] sorted long = refl
  stays_in_order (y ∷ ys) sorted long =
      let one = short y (in_order order ys) in
      let more = no_longer ys in
      let whole : length (in_order order ys) ≡ length ys = omega (arith, one, more, long) in
      let rest = stays_in_order ys (λ k d from low.
      let next : suc k + 1 ≡ suc (k + 1) = omega arith in
      rw next at (sorted (suc k) d (omega arith) (omega (arith, low)))) whole in
      let prefix : length (put order y ys) ≡ suc (length ys) = rw rest at long in
      rw rest (first_put y ys sorted prefix)

all_take : {X : Type 0} (P : X → Type 0) (n : ℕ) (xs : List X) → AllByRecursion P xs → AllByRecursion P (take n xs)
all_take P zero xs all = tt
all_take P (suc n) [] all = tt
all_take P (suc n) (x ∷ xs) all = (all.0, all_take P n xs all.1)

take_all : {X : Type 0} (n : ℕ) (xs : List X) → nat_lt n (length xs) ≡ false → take n xs ≡ xs
take_all zero [] e = refl
take_all zero (x ∷ xs) e = let yes : nat_lt 0 (length (x ∷ xs)) ≡ true = grind (arith, nat_tests) in absurd (false≢true (sym e ∙ yes))
take_all (suc n) [] e = refl
take_all (suc n) (x ∷ xs) e = ap (λ ys. x ∷ ys) (take_all n xs (let still : nat_lt n (length xs) ≡ false = grind (arith, nat_tests) in still))

module _ {R : Type 0} (row_from : Row → Option R) (written : R → Row) (P : R → Type 0) (again : (r : R) → P r → row_from (written r) ≡ Some r) (table_def : TableDef) (by : List ℕ) (order : R → R → Ordering)
    (by_columns : (a b : R) → order a b ≡ stored_order by (written a) (written b))
    (db : Database) (rs : List R) (represents : HasStoredRows db table_def (map written rs)) (sorted : IsStrictlySortedBy order rs) (all : AllByRecursion P rs)
    (places : List ℕ) (next : ℕ) (values : Row) (p : R → Bool) (tests : (r : R) → is_beyond places next values (written r) ≡ p r) where
  -- rows that were read up to a number are the first of those that pass, as they were written
  read_again : (most : ℕ) (stored : List Row) (has_more : Bool) (rows : List R) → IsPage db table_def by places next values most stored has_more → all_from row_from stored ≡ Some rows
      → (rows ≡ take most (filter p rs)) × (has_more ≡ nat_lt most (length (filter p rs)))
  read_again most stored has_more rows paged read =
      let key = stored_order by in
      let total = stored_total by in
      let here = map (columns_of table_def) (db.trees represents.tree) in
      let test = is_beyond places next values in
      let there : IsPermutation paged.whole (filter test here) = subst (λ tree. IsPermutation paged.whole (filter test (map (columns_of table_def) (db.trees tree)))) (one_tree db.schema table_def paged.at paged.tree represents.at represents.tree paged.declared represents.declared) paged.same in
      let back : IsPermutation (filter test here) (filter test (map written rs)) = IsPermutation-filter test here (map written rs) (IsPermutation-sym (map written rs) here represents.same) in
      let list = map written (filter p rs) in
      let moved : IsPermutation paged.whole list = subst (IsPermutation paged.whole) (of_mapped written test p tests rs) (IsPermutation-trans paged.whole (filter test here) (filter test (map written rs)) there back) in
      let turned : IsPermutation list paged.whole = IsPermutation-sym paged.whole list moved in
      let strict : IsStrictlySortedBy key list = sorted_keys written order key by_columns (filter p rs) (IsStrictlySortedBy-filter order p rs sorted) in
      let put_back : in_order key paged.whole ≡ list = again_in_order key total list paged.whole strict turned in
      let long : length (in_order key paged.whole) ≡ length paged.whole = ap length put_back ∙ length_permutation paged.whole list moved in
      let one : paged.whole ≡ list = sym (stays_in_order key total paged.whole paged.sorted long) ∙ put_back in
      let cut : stored ≡ map written (take most (filter p rs)) = paged.cut ∙ ap (take most) one ∙ take_mapped written most (filter p rs) in
      let reported : all_from row_from stored ≡ Some (map (λ r. r) (take most (filter p rs))) = ap (all_from row_from) cut ∙ all_again row_from written (λ r. r) P again (take most (filter p rs)) (all_take P most (filter p rs) (all_filter P p rs all)) in
      let rows_are : rows ≡ take most (filter p rs) = some_same rows (map (λ r. r) (take most (filter p rs))) (sym read ∙ reported) ∙ map_same (take most (filter p rs)) in
      let more_is : has_more ≡ nat_lt most (length (filter p rs)) = paged.reported ∙ ap (λ l. nat_lt most (length l)) one ∙ ap (nat_lt most) (length-map (filter p rs) written) in
      (rows_are, more_is)

  -- the rows of a page in the order of their list are the first of those that pass
  pub page_again : (page : Page R) → IsPaged db table_def by row_from places next values page → page ≡ page_of (filter p rs)
  page_again page is =
      let both = read_again page_size is.stored page.has_more page.rows is.paged is.read in
      λ i. record { rows = both.0 i; has_more = both.1 i }

  -- those of which no more are behind are all that pass
  pub whole_again : (most : ℕ) (stored : List Row) (rows : List R) → IsPage db table_def by places next values most stored false → all_from row_from stored ≡ Some rows → rows ≡ filter p rs
  whole_again most stored rows paged read =
      let both = read_again most stored false rows paged read in
      both.0 ∙ take_all most (filter p rs) (sym both.1)

-- ---- a page in another order than that of the list

-- a table has its rows whatever order they are listed in
pub relisted : {R : Type 0} (written : R → Row) (db : Database) (table_def : TableDef) (rs list : List R) → IsPermutation rs list → HasStoredRows db table_def (map written rs) → HasStoredRows db table_def (map written list)
relisted written db table_def rs list moved has = record {
  at = has.at;
  tree = has.tree;
  declared = has.declared;
  shaped = has.shaped;
  same = IsPermutation-trans (map written list) (map written rs) (map (columns_of table_def) (db.trees has.tree)) (IsPermutation-map written list rs (IsPermutation-sym rs list moved)) has.same;
}

module _ {R : Type 0} (row_from : Row → Option R) (written : R → Row) (P : R → Type 0) (again : (r : R) → P r → row_from (written r) ≡ Some r) (table_def : TableDef) (by : List ℕ) (order : R → R → Ordering) (total : IsTotalOrder order)
    (by_columns : (a b : R) → order a b ≡ stored_order by (written a) (written b))
    (db : Database) (rs : List R) (represents : HasStoredRows db table_def (map written rs)) (once : IsOnce order total rs) (all : AllByRecursion P rs)
    (places : List ℕ) (next : ℕ) (values : Row) (p : R → Bool) (tests : (r : R) → is_beyond places next values (written r) ≡ p r) where
  -- where no two rows tie in the order, the rows of a page are the first of those that pass, as they are sorted
  pub page_in_order : (page : Page R) → IsPaged db table_def by row_from places next values page → page ≡ page_of (in_order order (filter p rs))
  page_in_order page is =
      let list = in_order order rs in
      let made = ordered order total rs once in
      page_again row_from written P again table_def by order by_columns db list (relisted written db table_def rs list made.1 represents) made.0 (all-permutation P rs list made.1 all) places next values p tests page is
      ∙ ap page_of (kept_in_order order total p rs once)
