-- Fixed texts that read the rows of a definition's table.
use Rattle.std.specs.Prelude.{◌≡◌, ℕ, ◌+◌, ◌-◌, Bool, true, false, not, ◌&&◌, ◌==◌, nat_lt, nat_le, List, [], ◌∷◌, map, length, Option, Some, None, Ok, slice_index_or}
use Rattle.std.specs.List.{list_all, range_with_len}
use Rattle.sqlite.specs.Kind.TheVariants.{Integer}
use Rattle.sqlite_value.specs.declared.keys.Collation.{Collation}
use Rattle.sqlite_value.specs.declared.keys.Collation.TheVariants.{Binary}
use Rattle.sqlite_schema.specs.declared.schema.Column.{Column}
use Rattle.sqlite_schema.specs.Names.{column_named}
use Rattle.sqlite_resolve.specs.Compare.{is_filler}
use Rattle.sqlite_resolve.specs.Compile.{first}
use Rattle.sqlite_resolve.specs.Lowering.{max_budget}
use Rattle.sql_tables.specs.{TableDef, strict_column, table_of, Name}
use Rattle.sql_queries.specs.Written.{select_of, parsed_as}

-- the column with an index, the first being 1
abbrev pub column_at : TableDef → ℕ → Column
column_at table_def column_index = slice_index_or table_def.columns (column_index - 1) (strict_column [] Integer false)

abbrev pub names_at : TableDef → List ℕ → List Name
names_at table_def = map (λ column_index. (column_at table_def column_index).name)

abbrev pub all_column_indexes : TableDef → List ℕ
all_column_indexes table_def = range_with_len 1 (length table_def.columns)

-- the column indexes of the first key
abbrev pub first_of : List (List ℕ) → List ℕ
first_of [] = []
first_of (key ∷ keys) = key

abbrev pub is_at : Option ℕ → ℕ → Bool
is_at None column_index = false
is_at (Some k) column_index = k + 1 == column_index

-- the column index is that of a column, and of the one that the column's name finds
abbrev pub is_named : TableDef → ℕ → Bool
is_named table_def column_index = nat_lt 0 column_index && (nat_le column_index (length table_def.columns) && is_at (column_named (table_of table_def 0) (column_at table_def column_index).name) column_index)

abbrev pub is_binary : Collation → Bool
is_binary Binary = true
is_binary _ = false

-- the column with this index is compared as it is stored
abbrev pub is_plain : TableDef → ℕ → Bool
is_plain table_def column_index = let column = column_at table_def column_index in column.is_strict && (not (is_filler column) && is_binary column.collation)

-- each column and each key is found by its name
abbrev pub is_readable : TableDef → Bool
is_readable table_def =
    list_all (is_named table_def) (all_column_indexes table_def) && (list_all (is_named table_def) (first_of table_def.keys) && nat_lt (length table_def.columns + length (first_of table_def.keys) + 12) max_budget)

-- up to three columns, which can be compared with parameters
abbrev pub are_given : TableDef → List ℕ → Bool
are_given table_def given = nat_le (length given) 3 && list_all (λ column_index. is_named table_def column_index && is_plain table_def column_index) given

-- SELECT of all columns in their order, with a parameter for each of the given columns, in the order of the first key
pub record Selects (table_def : TableDef) (given text : List ℕ) : Type 0 where
  pub readable : is_readable table_def ≡ true
  pub compared : are_given table_def given ≡ true
  pub parameters : List Name
  pub written : first text ≡ Ok (parsed_as (select_of table_def.name (names_at table_def (all_column_indexes table_def)) (names_at table_def given) (names_at table_def (first_of table_def.keys))) parameters (length text))
