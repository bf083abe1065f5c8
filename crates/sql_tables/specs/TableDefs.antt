-- How one table is declared: STRICT, each column INTEGER or TEXT with no default, each key a UNIQUE, and nothing else.
use Rattle.std.specs.Prelude.{ℕ, Bool, true, false, List, [], map, None}
use Rattle.sqlite_value.specs.declared.keys.Collation.TheVariants.{Binary}
use Rattle.sqlite_value.specs.declared.value.Value.TheVariants.{Null}
use Rattle.sqlite_value.specs.Keys.{plain}
use Rattle.sqlite_value.specs.declared.keys.Order.{Order}
use Rattle.sqlite.specs.Kind.{Kind}
use Rattle.sqlite.specs.Kind.TheVariants.{Integer, Text}
use Rattle.sqlite.specs.Table.{Table}
use Rattle.sqlite_schema.specs.declared.schema.Column.{Column}
use Rattle.sql_tables.specs.declared.table_def.ColumnDef.{ColumnDef}
use Rattle.sql_tables.specs.declared.table_def.ColumnDef.TheVariants as column

pub record TableDef : Type 0 where
  pub name : List ℕ
  pub columns : List Column
  -- the column indexes of each key, the first column being 1
  pub keys : List (List ℕ)

-- a column of a STRICT table, which has no default and compares texts by their bytes
abbrev pub strict_column : List ℕ → Kind → Bool → Column
strict_column name kind not_null = record { name = name; kind = kind; is_strict = true; not_null = not_null; default = Null; collation = Binary }

abbrev pub integer : List ℕ → Column
integer name = strict_column name Integer true

abbrev pub text : List ℕ → Column
text name = strict_column name Text true

abbrev pub integer_or_null : List ℕ → Column
integer_or_null name = strict_column name Integer false

abbrev pub text_or_null : List ℕ → Column
text_or_null name = strict_column name Text false

abbrev pub column_of : ColumnDef → Column
column_of (column.Integer name) = integer name.now
column_of (column.Text name) = text name.now
column_of (column.IntegerOrNull name) = integer_or_null name.now
column_of (column.TextOrNull name) = text_or_null name.now

-- each key in the order of its columns, all ascending
abbrev pub plains : List (List ℕ) → List Order
plains keys = map (λ key. plain) keys

-- the table that the definition declares, at this tree
abbrev pub table_of : TableDef → ℕ → Table
table_of table_def tree = record {
  name = table_def.name;
  tree = tree;
  columns = table_def.columns;
  key = None;
  primary = [];
  uniques = table_def.keys;
  orders = plains table_def.keys;
  checks = [];
  references = [];
  computed = [];
  stamps = record { places = []; terms = []; formats = [] };
  is_counted = false;
}
