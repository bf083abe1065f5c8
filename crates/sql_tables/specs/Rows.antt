-- Rows of a definition's table, as lists of the values of their columns, without the rowid.
use Rattle.std.specs.Prelude.{ℕ, zero, suc, ◌+◌, Bool, true, false, not, ◌&&◌, List, [], ◌∷◌, drop, filter, length}
use Rattle.std.specs.List.{list_any}
use Rattle.sqlite.specs.Order.{Row}
use Rattle.sqlite.specs.declared.types.Value.{Value}
use Rattle.sqlite.specs.declared.types.Value.TheVariants.{Null, Int, Text}
use Rattle.sqlite.specs.Kind.{Kind}
use Rattle.sqlite.specs.Kind.TheVariants as kind
use Rattle.sqlite_schema.specs.declared.schema.Column.{Column}
use Rattle.sqlite_schema.specs.Rules.{agree}
use Rattle.sqlite_sql.specs.Ops.{is_null}
use Rattle.sqlite_value.specs.Keys.{plain}
use Rattle.sql_tables.specs.TableDefs.{TableDef}

-- at least so many values: those that a row lacks are NULL
abbrev pub padded : ℕ → Row → Row
padded zero row = row
padded (suc n) [] = Null ∷ padded n []
padded (suc n) (v ∷ row) = v ∷ padded n row

-- the columns of a stored row of the definition's table, without its rowid; a row older than added columns
-- lacks these
abbrev pub columns_of : TableDef → Row → Row
columns_of table_def row = padded (length table_def.columns) (drop 1 row)

-- the value is of the type, or NULL
abbrev pub fits_kind : Kind → Value → Bool
fits_kind kind.Integer Null = true
fits_kind kind.Integer (Int n) = true
fits_kind kind.Text Null = true
fits_kind kind.Text (Text t) = true
fits_kind _ _ = false

-- the values are of the columns' types, as many as there are columns, and NULL only where a column allows it
abbrev pub fits_columns : List Column → Row → Bool
fits_columns [] [] = true
fits_columns [] (v ∷ vs) = false
fits_columns (c ∷ cs) [] = false
fits_columns (c ∷ cs) (v ∷ vs) = fits_kind c.kind v && not (c.not_null && is_null v) && fits_columns cs vs

-- two rows are equal in the columns of a key
abbrev pub same_key : List ℕ → Row → Row → Bool
same_key key a b = agree plain key (Null ∷ a) key (Null ∷ b)

-- two rows are equal in some key of the table definition
abbrev pub meets : TableDef → Row → Row → Bool
meets table_def a b = list_any (λ key. same_key key a b) table_def.keys

-- the rows with this one, instead of any that it meets
abbrev pub put : TableDef → Row → List Row → List Row
put table_def row rows = row ∷ filter (λ r. not (meets table_def r row)) rows

-- the column indexes of as many values, from this one on
abbrev pub column_indexes_from : ℕ → List ℕ → List ℕ
column_indexes_from n [] = []
column_indexes_from n (column_index ∷ key) = n ∷ column_indexes_from (n + 1) key

-- the row has these values in the columns of a key, in their order
abbrev pub has_values : List ℕ → Row → Row → Bool
has_values key values row = agree plain key (Null ∷ row) (column_indexes_from 0 key) values

-- the rows but for those that have these values in the columns of a key
abbrev pub delete_by_key : List ℕ → Row → List Row → List Row
delete_by_key key values rows = filter (λ r. not (has_values key values r)) rows
