-- The order of rows by a key, whatever their values are.
use Rattle.std.specs.Prelude.{ℕ, ℤ, pos, Bool, List, [], ◌∷◌}
use Rattle.std.specs.Ordering.{nat_cmp, int_cmp, is_lt, ordering_then}
use Rattle.std.specs.Cmp.Lexicographic.{slice_cmp}
use Rattle.std.specs.declared.cmp.Ordering.{Ordering}
use Rattle.std.specs.declared.cmp.Ordering.TheVariants.{Equal}
use Rattle.sqlite.specs.Order.{Row, column}
use Rattle.sqlite.specs.declared.types.Value.{Value}
use Rattle.sqlite.specs.declared.types.Value.TheVariants.{Null, Int, Text}
use Rattle.sql_tables.specs.{TableDef}
use Rattle.sql_queries.specs.Selects.{first_of}

-- the number of a value, and 0 where it is none
abbrev pub number_of : Value → ℤ
number_of (Int n) = n
number_of _ = pos 0

-- its text, and the empty one where it is none
abbrev pub text_of : Value → List ℕ
text_of (Text bytes) = bytes
text_of _ = []

-- numbers first, then texts by their bytes
abbrev pub value_order : Value → Value → Ordering
value_order v w = ordering_then (int_cmp (number_of v) (number_of w)) (slice_cmp nat_cmp (text_of v) (text_of w))

-- the order of two rows by the columns with these indexes, the first column being 1
abbrev pub key_order : List ℕ → Row → Row → Ordering
key_order [] a b = Equal
key_order (column_index ∷ column_indexes) a b = ordering_then (value_order (column (Null ∷ a) column_index) (column (Null ∷ b) column_index)) (key_order column_indexes a b)

-- the row comes before the other by the columns with these indexes
abbrev pub is_before : List ℕ → Row → Row → Bool
is_before column_indexes a b = is_lt (key_order column_indexes a b)

-- the row comes before the other by the first key of the table definition
abbrev pub comes_before : TableDef → Row → Row → Bool
comes_before table_def a b = is_before (first_of table_def.keys) a b
