-- What a fixed text says of a definition's table, whatever else the schema has. Each is shown of a text by computing it.
use Rattle.std.specs.Prelude.{◌≡◌, ◌⊎◌, ℕ, ◌+◌, ◌==◌, Bool, true, false, List, [], ◌∷◌, ◌++◌, length, Option, Ok, Err, slice_get, slice_range, Some, ltb}
use Rattle.std.specs.List.{list_all}
use Rattle.sqlite.specs.declared.types.Value.TheVariants.{Null}
use Rattle.sqlite.specs.Term.{Term, lit, col}
use Rattle.sqlite.specs.Schema.{Schema}
use Rattle.sqlite.specs.Source.TheVariants.{Values}
use Rattle.sqlite_schema.specs.declared.schema.Column.{Column}
use Rattle.sqlite_ast.specs.declared.Rows.{Rows}
use Rattle.sqlite_ast.specs.declared.Rows.TheVariants as rows
use Rattle.sqlite_ast.specs.declared.Conflict.TheVariants as conflict
use Rattle.sqlite_ast.specs.declared.Upsert.{Upsert}
use Rattle.sqlite_ast.specs.declared.CreateTable as ast
use Rattle.sqlite_ast.specs.declared.Expr.{Expr}
use Rattle.sqlite_ast.specs.declared.Statement.{Statement}
use Rattle.sqlite_ast.specs.declared.Statement.TheVariants as written
use Rattle.sqlite_draft.specs.declared.query.Draft.{Draft}
use Rattle.sqlite_draft.specs.declared.join.Step.TheVariants.{Inner}
use Rattle.sqlite_syntax.specs.declared.statement.Parsed.{Parsed}
use Rattle.sqlite_resolve.specs.Lowering.{Checked}
use Rattle.sqlite_resolve.specs.Define as define
use Rattle.sqlite_resolve.specs.Compile.{table_defined_by, first, is_reserved, new_rows, small}
use Rattle.sqlite_resolve.specs.Write.{places, deleted, simple}
use Rattle.sqlite_resolve.specs.Terms.{equal}
use Rattle.sqlite_resolve.specs.Given.{do_update}
use Rattle.sqlite_value.specs.declared.keys.Collation.TheVariants.{Binary}
use Rattle.sqlite_rules.specs.Probe.{equalities, other_rowid}
use Rattle.sqlite_value.specs.Keys.{plain}
use Rattle.sql_tables.specs.TableDefs.{TableDef, table_of}
use Rattle.sql_tables.specs.Rows.{column_indexes_from}

-- ---- a text that makes the definition's table

pub record IsCreateStatement (text : List ℕ) (table_def : TableDef) : Type 0 where
  pub parsed : Parsed
  pub reads : first text ≡ Ok parsed
  pub def : ast.CreateTable
  pub statement : parsed.statement ≡ written.CreateTable def
  pub name : def.name ≡ table_def.name
  pub unconditional : def.if_missing ≡ false
  pub plain : def.resolves ≡ false
  pub defines : define.table parsed.formats def ≡ Ok (table_of table_def 0)
  pub whole : slice_range text parsed.start parsed.end ≡ text
  pub table_is : table_defined_by text ≡ Ok (table_of table_def 0)
  pub own_name : is_reserved table_def.name ≡ false

-- ---- a text that puts a row, whose values are the parameters in the order of the columns

-- the parameters from this one on, one a column
abbrev pub parameters_from : ℕ → List Column → List Term
parameters_from n [] = []
parameters_from n (c ∷ cs) = col 0 n ∷ parameters_from (n + 1) cs

-- a new rowid, and a parameter for each column
abbrev pub terms_of : TableDef → List Term
terms_of table_def = lit Null ∷ parameters_from 0 table_def.columns

-- the indexes of each key are those of columns, and not of the rowid
abbrev pub are_above : List (List ℕ) → Bool
are_above keys = list_all (list_all (λ p. ltb 0 p)) keys

-- INSERT INTO t (..) VALUES (..), with these clauses of ON CONFLICT
pub record IsInsertStatement (text : List ℕ) (table_def : TableDef) (clauses : List Upsert) : Type 0 where
  pub parsed : Parsed
  pub reads : first text ≡ Ok parsed
  pub columns : List (List ℕ)
  pub rows : Rows
  pub statement : parsed.statement ≡ written.Insert conflict.Abort table_def.name columns rows clauses []
  pub untimed : parsed.formats ≡ []
  pub made : (schema : Schema) (tree : ℕ) → new_rows schema (table_of table_def tree) (small parsed.names) columns rows ≡ Ok (Values (terms_of table_def) (length table_def.columns + 1))
  pub above : are_above table_def.keys ≡ true

-- The row with the rowid that is given after the parameters gets each column of the row that is given after that.
abbrev pub updating : TableDef → ℕ → Draft
updating table_def tree =
    let count = length table_def.columns in
    simple (Inner tree ∷ []) (equal Binary (col 1 0) (col 0 count) ∷ []) (col 1 0 ∷ col 1 0 ∷ parameters_from (count + 2) table_def.columns)

-- the same, ON CONFLICT over the columns with these indexes DO UPDATE of each column
pub record IsUpsertStatement (text : List ℕ) (table_def : TableDef) : Type 0 where
  pub clause : Upsert
  pub inserts : IsInsertStatement text table_def (clause ∷ [])
  pub counted : small inserts.parsed.names ≡ length table_def.columns
  pub key : List ℕ
  pub aims : (tree : ℕ) → places (table_of table_def tree) clause.target ≡ Ok key
  pub sets : (length clause.sets == 0) ≡ false
  pub updates : (schema : Schema) (at tree : ℕ) → slice_get schema.tables at ≡ Some (table_of table_def tree) → do_update schema at (table_of table_def tree) (length table_def.columns) clause ≡ Ok (updating table_def tree)

-- It adds a row that meets none, or updates the one that it meets by a key. Where the row meets another in some other key, the
-- store refuses it.
abbrev pub IsPutStatement : List ℕ → TableDef → Type 0
IsPutStatement text table_def = IsInsertStatement text table_def [] ⊎ IsUpsertStatement text table_def

-- ---- a text that takes away the rows with the values of the parameters in the columns of a key

-- the rows of a tree that pass the tests
abbrev pub taking : ℕ → List Term → Draft
taking tree tests = simple (Inner tree ∷ []) tests (col 1 0 ∷ [])

pub record IsDeleteStatement (text : List ℕ) (table_def : TableDef) (key : List ℕ) : Type 0 where
  pub parsed : Parsed
  pub reads : first text ≡ Ok parsed
  pub test : Option Expr
  pub statement : parsed.statement ≡ written.Delete table_def.name test []
  pub untimed : parsed.formats ≡ []
  pub above : list_all (λ p. ltb 0 p) key ≡ true
  pub taken : (schema : Schema) (at tree : ℕ) → slice_get schema.tables at ≡ Some (table_of table_def tree)
      → deleted schema at (table_of table_def tree) test ≡ Ok (taking tree (equalities plain key (column_indexes_from 0 key) ++ other_rowid false))

-- ---- the parts of what the parser reads, for those who compute it

abbrev pub parse_or : Checked Parsed → Parsed
parse_or (Ok p) = p
parse_or (Err e) = record { statement = written.Empty; names = []; formats = []; start = 0; end = 0; tail = 0 }

abbrev pub rows_in : Statement → Rows
rows_in (written.Insert how name columns rows clauses shown) = rows
rows_in _ = rows.Defaults

abbrev pub names_in : Statement → List (List ℕ)
names_in (written.Insert how name columns rows clauses shown) = columns
names_in _ = []

abbrev pub definition_in : Statement → ast.CreateTable
definition_in (written.CreateTable def) = def
definition_in _ = record { if_missing = false; name = []; body = record { columns = []; rules = [] }; is_strict = false; resolves = false }
