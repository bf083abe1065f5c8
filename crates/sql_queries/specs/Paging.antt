-- Pages: the first rows, in the order of some columns, of those with given values and one above another.
use Rattle.std.specs.Prelude.{◌≡◌, ℕ, pos, ◌<◌, ◌^◌, ◌+◌, Bool, true, not, ◌&&◌, nat_lt, nat_le, List, [], ◌∷◌, length, filter, map, take, Result, Ok, IfOk, IsPermutation, IsSorted}
use Rattle.std.specs.List.{list_all}
use Rattle.std.specs.Ordering.{is_eq, is_gt, ordering_then}
use Rattle.std.specs.declared.cmp.Ordering.{Ordering}
use Rattle.std.specs.declared.cmp.Ordering.TheVariants.{Equal}
use Rattle.sqlite_value.specs.declared.value.Value.{Value}
use Rattle.sqlite_value.specs.declared.value.Value.TheVariants.{Null, Int}
use Rattle.sqlite_value.specs.Order.{Row, column, value_cmp}
use Rattle.sqlite_sql.specs.Ops.{is_null}
use Rattle.sqlite_resolve.specs.Compile.{first}
use Rattle.sqlite_resolve.specs.Lowering.{max_budget}
use Rattle.sqlite.specs.Effect.{Database}
use Rattle.sqlite.specs.State.{State, HasCleanDisk}
use Rattle.sql_tables.specs.{TableDef, columns_of, IsDeclared, Name}
use Rattle.sql_queries.specs.Selects.{column_at, names_at, all_column_indexes, is_named, is_plain, is_readable}
use Rattle.sql_queries.specs.Written.{select_where, filter_after, up_to, parsed_as}
use Rattle.sql_queries.specs.declared.page.RowPage.{RowPage}

-- the row has a value above this one in the column with this index
abbrev pub is_after : ℕ → Value → Row → Bool
is_after column_index value row = is_gt (value_cmp (column (Null ∷ row) column_index) value)

-- the row has the first values in the columns with these indexes, and in the next column one above the value after them
abbrev pub is_beyond : List ℕ → ℕ → Row → Row → Bool
is_beyond [] next [] row = true
is_beyond [] next (value ∷ values) row = is_after next value row
is_beyond (column_index ∷ column_indexes) next [] row = true
is_beyond (column_index ∷ column_indexes) next (value ∷ values) row = is_eq (value_cmp (column (Null ∷ row) column_index) value) && is_beyond column_indexes next values row

-- a value for each index and one more, no NULL, and last one more than so many rows
pub record AreBounds (column_indexes : List ℕ) (most : ℕ) (values : Row) : Type 0 where
  pub long : length values ≡ length column_indexes + 2
  pub known : list_all (λ v. not (is_null v)) values ≡ true
  pub up_to : column values (length column_indexes + 1) ≡ Int (pos (most + 1))

-- the order of two rows by the columns with these indexes, as a store compares them
abbrev pub stored_order : List ℕ → Row → Row → Ordering
stored_order [] a b = Equal
stored_order (column_index ∷ column_indexes) a b = ordering_then (value_cmp (column (Null ∷ a) column_index) (column (Null ∷ b) column_index)) (stored_order column_indexes a b)

abbrev pub is_compared : TableDef → ℕ → Bool
is_compared table_def column_index = is_named table_def column_index && is_plain table_def column_index

-- the rows can be put in order by these columns, which are compared as they are stored
abbrev pub is_orderable : TableDef → List ℕ → Bool
is_orderable table_def by = list_all (is_compared table_def) by && nat_lt (length table_def.columns + length by + 12) max_budget

-- SELECT of all columns in their order, with a parameter for each of up to two given columns and one that the next column is
-- above, in the order of the columns with these indexes, up to as many rows as a last parameter says
pub record SelectsPage (table_def : TableDef) (by given : List ℕ) (next : ℕ) (text : List ℕ) : Type 0 where
  pub readable : is_readable table_def ≡ true
  pub compared : (nat_le (length given) 2 && list_all (is_compared table_def) given) ≡ true
  pub bounded : is_compared table_def next ≡ true
  pub ordered : is_orderable table_def by ≡ true
  pub parameters : List Name
  pub written : first text ≡ Ok (parsed_as (select_where table_def.name (names_at table_def (all_column_indexes table_def)) (filter_after (names_at table_def given) (column_at table_def next).name) (names_at table_def by) (up_to (length given + 2))) parameters (length text))

-- The definition's table is declared. Of its rows with the given values in the columns with these indexes, and a value above the last one in the next
-- column, these are the first so many in the order of some columns; and whether there are more.
pub record IsPage (db : Database) (table_def : TableDef) (by column_indexes : List ℕ) (next : ℕ) (values : Row) (most : ℕ) (rows : List Row) (has_more : Bool) : Type 0 where
  pub at : ℕ
  pub tree : ℕ
  pub declared : IsDeclared db.schema table_def at tree
  pub low : tree < 2 ^ 31
  pub whole : List Row
  pub same : IsPermutation whole (filter (is_beyond column_indexes next values) (map (columns_of table_def) (db.trees tree)))
  pub sorted : IsSorted (stored_order by) whole
  pub cut : rows ≡ take most whole
  pub reported : has_more ≡ nat_lt most (length whole)

-- What a call answers, where the text selects pages and the values bound them, is the page of what the store showed.
abbrev pub GivesPage : {E : Type 0} → TableDef → List ℕ → List ℕ → Row → ℕ → State → State → Result RowPage E → Type 0
GivesPage table_def by sql values most old new r = (column_indexes : List ℕ) (next : ℕ) → SelectsPage table_def by column_indexes next sql → AreBounds column_indexes most values → HasCleanDisk new
    → IfOk r (λ page. IsPage old.now table_def by column_indexes next values most page.rows.items page.has_more)
