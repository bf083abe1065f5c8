-- The columns of a table definition as a query meets them.
use Rattle.std.proofs.Common.{◌≡◌, refl, ap, ap₂, List, ℕ, ◌-◌, ◌+◌, ◌<◌, ◌≤◌, [], ◌∷◌, map, None, Some, Option, true, false, arith, nat_lt, nat_le, length, ◌&&◌, add-one}
use Rattle.std.specs.List.{list_all}
use Rattle.std.proofs.lemmas.Bool.{and_parts, not-true}
use Rattle.std.proofs.lemmas.Option.{slice_get-get_or}
use Rattle.sqlite.specs.Kind.TheVariants.{Integer}
use Rattle.sqlite_value.specs.declared.keys.Collation.{Collation}
use Rattle.sqlite_value.specs.declared.keys.Collation.TheVariants.{Binary}
use Rattle.sqlite_schema.specs.Names.{column_named}
use Rattle.sql_tables.specs.{TableDef, strict_column, table_of}
use Rattle.sqlite_resolve.specs.Lowering.{max_budget}
use Rattle.sql_queries.specs.{is_compared, is_orderable, column_at, names_at, all_column_indexes, first_of, is_at, is_named, is_binary, is_plain, is_readable}
use Rattle.sql_tables.proofs.WhereGiven.{Entry, AreColumns, IsGiven}
use Rattle.sql_queries.proofs.SelectResolves.{names_of}
use Rattle.sql_queries.proofs.QueryAnswer.{places_of}

abbrev pub entry_at : TableDef → ℕ → Entry
entry_at table_def column_index = record { name = (column_at table_def column_index).name; at = column_index - 1; column = column_at table_def column_index }

abbrev pub entries : TableDef → List ℕ → List Entry
entries table_def = map (entry_at table_def)

pub names_are : (table_def : TableDef) (column_indexes : List ℕ) → names_of (entries table_def column_indexes) ≡ names_at table_def column_indexes
names_are table_def [] = refl
names_are table_def (p ∷ ps) = ap (λ ns. (column_at table_def p).name ∷ ns) (names_are table_def ps)

pub record Named (table_def : TableDef) (column_index : ℕ) : Type 0 where
  pub cursor : 0 < column_index
  pub within : column_index ≤ length table_def.columns
  pub found : column_named (table_of table_def 0) (column_at table_def column_index).name ≡ Some (column_index - 1)

is_found : (o : Option ℕ) (column_index : ℕ) → is_at o column_index ≡ true → o ≡ Some (column_index - 1)
is_found None column_index h = absurd (cc)
is_found (Some k) column_index h =
    let one : k + 1 ≡ column_index = grind (arith, h) in
    ap Some (omega (arith, one))

pub named : (table_def : TableDef) (column_index : ℕ) → is_named table_def column_index ≡ true → Named table_def column_index
named table_def column_index h =
    let low = and_parts _ _ h in
    let high = and_parts _ _ low.1 in
    let cursor : nat_lt 0 column_index ≡ true = low.0 in
    let within : nat_le column_index (length table_def.columns) ≡ true = high.0 in
    let above_is : 0 < column_index = grind (arith, cursor) in
    let within_is : column_index ≤ length table_def.columns = grind (arith, within) in
    record { cursor = above_is; within = within_is; found = is_found _ column_index high.1 }

pub are_columns : (table_def : TableDef) (tree : ℕ) (column_indexes : List ℕ) → list_all (is_named table_def) column_indexes ≡ true → AreColumns (table_of table_def tree) (entries table_def column_indexes)
are_columns table_def tree [] h = tt
are_columns table_def tree (p ∷ ps) h =
    let parts = and_parts _ _ h in
    let it = named table_def p parts.0 in
    let cursor = it.cursor in
    let within = it.within in
    (it.found, slice_get-get_or table_def.columns (p - 1) (strict_column [] Integer false) (omega arith), are_columns table_def tree ps parts.1)

pub binary : (how : Collation) → is_binary how ≡ true → how ≡ Binary
binary Binary h = refl
binary _ h = absurd (cc)

pub is_given : (table_def : TableDef) (tree column_index : ℕ) → is_plain table_def column_index ≡ true → IsGiven (table_of table_def tree) (entry_at table_def column_index)
is_given table_def tree column_index h =
    let parts = and_parts _ _ h in
    let more = and_parts _ _ parts.1 in
    record { column_index = add-one (column_index - 1); strict = parts.0; named = not-true _ more.0 }

-- a column that is found by its name and compared as it is stored
pub given_column : (table_def : TableDef) (tree column_index : ℕ) → (is_named table_def column_index && is_plain table_def column_index) ≡ true → AreColumns (table_of table_def tree) (entries table_def (column_index ∷ [])) × IsGiven (table_of table_def tree) (entry_at table_def column_index)
given_column table_def tree column_index h =
    let parts = and_parts _ _ h in
    let known : is_named table_def column_index ≡ true = parts.0 in
    (are_columns table_def tree (column_index ∷ []) (rw known refl), is_given table_def tree column_index parts.1)

-- in a table without a rowid of its own each column comes after the rowid
pub places_are : (table_def : TableDef) (tree : ℕ) (column_indexes : List ℕ) → list_all (is_named table_def) column_indexes ≡ true → places_of (table_of table_def tree) (entries table_def column_indexes) ≡ column_indexes
places_are table_def tree [] h = refl
places_are table_def tree (p ∷ ps) h =
    let parts = and_parts _ _ h in
    let cursor = (named table_def p parts.0).cursor in
    let back : p - 1 + 1 ≡ p = omega arith in
    ap₂ (λ q qs. q ∷ qs) back (places_are table_def tree ps parts.1)

-- its columns, and those that its rows are put in order by, are found by their names
pub record Readable (table_def : TableDef) (by : List ℕ) : Type 0 where
  pub columns : list_all (is_named table_def) (all_column_indexes table_def) ≡ true
  pub order : list_all (is_named table_def) by ≡ true
  pub few : length table_def.columns + length by + 12 < max_budget

-- what the test of a table definition says
pub readable : (table_def : TableDef) → is_readable table_def ≡ true → Readable table_def (first_of table_def.keys)
readable table_def h =
    let few = nat_lt (length table_def.columns + length (first_of table_def.keys) + 12) max_budget in
    let one = and_parts (list_all (is_named table_def) (all_column_indexes table_def)) (list_all (is_named table_def) (first_of table_def.keys) && few) h in
    let two = and_parts (list_all (is_named table_def) (first_of table_def.keys)) few one.1 in
    let small : nat_lt (length table_def.columns + length (first_of table_def.keys) + 12) max_budget ≡ true = two.1 in
    let small_is : length table_def.columns + length (first_of table_def.keys) + 12 < max_budget = grind (arith, small) in
    record { columns = one.0; order = two.0; few = small_is }

-- columns that are compared are found by their names
compared_named : (table_def : TableDef) (by : List ℕ) → list_all (is_compared table_def) by ≡ true → list_all (is_named table_def) by ≡ true
compared_named table_def [] h = refl
compared_named table_def (p ∷ ps) h =
    let parts = and_parts _ _ h in
    let known : is_named table_def p ≡ true = (and_parts _ _ parts.0).0 in
    rw known (compared_named table_def ps parts.1)

-- the same where rows are put in order by other columns than the first key's
pub readable_by : (table_def : TableDef) (by : List ℕ) → is_readable table_def ≡ true → is_orderable table_def by ≡ true → Readable table_def by
readable_by table_def by h ordered =
    let parts = and_parts (list_all (is_compared table_def) by) (nat_lt (length table_def.columns + length by + 12) max_budget) ordered in
    let small : nat_lt (length table_def.columns + length by + 12) max_budget ≡ true = parts.1 in
    let small_is : length table_def.columns + length by + 12 < max_budget = grind (arith, small) in
    record { columns = (readable table_def h).columns; order = compared_named table_def by parts.0; few = small_is }
