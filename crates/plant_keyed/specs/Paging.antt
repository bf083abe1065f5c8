-- A page of the desk's rows.
use Rattle.std.specs.Prelude.{◌≡◌, ◌+◌, ℕ, negsuc, false, true, List, [], ◌∷◌, Option, Some}
use Rattle.std.specs.Float.{fin}
use Rattle.std.specs.Set.{sorted_merge}
use Rattle.std.specs.declared.cmp.Ordering.{Ordering}
use Rattle.sqlite.specs.Effect.{Database}
use Rattle.sqlite.specs.Order.{Row}
use Rattle.sqlite.specs.declared.types.Value.{Value}
use Rattle.sqlite.specs.declared.types.Value.TheVariants.{Real}
use Rattle.sql_tables.specs.{TableDef}
use Rattle.sql_queries.specs.{IsPage}
use Rattle.plant_tables_columns.specs.{all_from, number}
use Rattle.plant_questions.specs.{page_size, page_of, Page}

-- These rows of the desk were read of a page of the table's rows, in the order of the columns with these indexes.
pub record IsPaged (db : Database) (table_def : TableDef) (by : List ℕ) {R : Type 0} (row_from : Row → Option R) (places : List ℕ) (next : ℕ) (values : Row) (page : Page R) : Type 0 where
  pub stored : List Row
  pub paged : IsPage db table_def by places next values page_size stored page.has_more
  pub read : all_from row_from stored ≡ Some page.rows

-- above 0, and below each amount
abbrev pub half : Value
half = Real (fin false 1 (negsuc 0))

-- no more rows are read at once
abbrev pub row_limit : ℕ
row_limit = 1000000000

-- These rows of the desk were read of all the table's rows with a value above this one in a column.
pub record AreAbove (db : Database) (table_def : TableDef) (by : List ℕ) {R : Type 0} (row_from : Row → Option R) (next : ℕ) (values : Row) (rows : List R) : Type 0 where
  pub stored : List Row
  pub all : IsPage db table_def by [] next values row_limit stored false
  pub read : all_from row_from stored ≡ Some rows

-- The page is that of two lists in order as one, of which these are the first pages.
pub record IsOfBoth {R : Type 0} (order : R → R → Ordering) (is_first is_second : Page R → Type 0) (page : Page R) : Type 0 where
  pub first : Page R
  pub second : Page R
  pub of_first : is_first first
  pub of_second : is_second second
  pub as_one : (xs ys : List R) → first ≡ page_of xs → second ≡ page_of ys → page ≡ page_of (sorted_merge order true xs ys)

-- The rows with a given value in one column, and after a cursor of two values in two others: those with its first value and after its
-- second, and those after its first.
abbrev pub IsPagedBeyond : Database → TableDef → List ℕ → {R : Type 0} → (Row → Option R) → (R → R → Ordering) → ℕ → ℕ → ℕ → Value → Value → Value → Page R → Type 0
IsPagedBeyond db table_def by row_from order place next last given first second =
    IsOfBoth order (IsPaged db table_def by row_from (place ∷ next ∷ []) last (given ∷ first ∷ second ∷ number (page_size + 1) ∷ []))
    (IsPaged db table_def by row_from (place ∷ []) next (given ∷ first ∷ number (page_size + 1) ∷ []))
