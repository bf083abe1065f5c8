-- What a call inside a transaction makes of the tables of some table definitions.
use Rattle.std.specs.Prelude.{◌≡◌, ℕ, ◌+◌, ◌==◌, Bool, true, not, ◌&&◌, if◌then◌else◌, List, [], ◌∷◌, ◌++◌, slice_get, Some, Ok, IsTrue}
use Rattle.std.specs.List.{AllZip, list_all}
use Rattle.sqlite.specs.Order.{Row}
use Rattle.sqlite.specs.Effect.{Database, IsDatabase}
use Rattle.sqlite.specs.Change.{automatics}
use Rattle.sqlite.specs.State.{State, Shows, Executes}
use Rattle.sqlite_schema.specs.declared.schema.Index.{Index}
use Rattle.sqlite_schema.specs.Names.{same_name}
use Rattle.sql_tables.specs.TableDefs.{TableDef, table_of}
use Rattle.sql_tables.specs.Rows.{fits_columns, put, delete_by_key}
use Rattle.sql_tables.specs.StoredRows.{Contents, HasStoredRows, HaveStoredRows, KeepsOtherTables, AreFree}
use Rattle.sql_tables.specs.Texts.{IsCreateStatement, IsPutStatement, IsDeleteStatement}

-- the name differs from those of the others, and the names of its own indexes do
abbrev pub differs_from : ℕ → TableDef → List TableDef → Bool
differs_from tree f [] = true
differs_from tree f (g ∷ gs) = not (same_name f.name g.name) && (list_all (λ (i : Index). not (same_name i.name g.name)) (automatics (table_of f tree) 0 (tree + 1) f.keys) && differs_from tree f gs)

abbrev pub all_differ : ℕ → List TableDef → Bool
all_differ tree [] = true
all_differ tree (f ∷ fs) = differs_from tree f fs && all_differ tree fs

-- no two of the table definitions share a name, and no index that comes with a table bears the name of a later one
pub record AreApart (table_defs : List TableDef) : Type 0 where
  pub apart : (tree : ℕ) → all_differ tree table_defs ≡ true

-- the table of an index with a row put in it
abbrev pub changed_at : ℕ → TableDef → Row → Contents → Contents
changed_at column_index table_def row contents i = if i == column_index then put table_def row (contents column_index) else contents i

-- the table of an index without the rows that have these values in the columns of a key
abbrev pub taken_at : ℕ → List ℕ → Row → Contents → Contents
taken_at column_index key values contents i = if i == column_index then delete_by_key key values (contents column_index) else contents i

-- It leads from tables that exist to the changed ones, keeps the others, and declares nothing. Nothing is committed, and the
-- transaction goes on.
pub record Moves (table_defs : List TableDef) (old new : State) (step : Contents → Contents) : Type 0 where
  pub has_rows : (contents : Contents) → HaveStoredRows table_defs old.now contents → HaveStoredRows table_defs new.now (step contents)
  pub others : (contents : Contents) → HaveStoredRows table_defs old.now contents → KeepsOtherTables table_defs old.now new.now
  pub schema : (contents : Contents) → HaveStoredRows table_defs old.now contents → new.now.schema ≡ old.now.schema
  pub shown : IsTrue old.is_open → IsTrue old.in_transaction → Shows old new new.now old.committed true

-- A statement ran, and left the transaction open and the last commit as it was.
pub record RunsInside (sql : List ℕ) (params : Row) (old new : State) (count : ℕ) : Type 0 where
  pub ran : Executes sql params old new (Ok count)
  pub shown : Shows old new new.now old.committed true

-- The text was run with these parameters: where it puts a row of some definition's table, that row is put.
abbrev pub Upserts : List ℕ → Row → State → State → Type 0
Upserts text row old new =
    (table_defs : List TableDef) (column_index : ℕ) (table_def : TableDef) → AreApart table_defs → slice_get table_defs column_index ≡ Some table_def → IsPutStatement text table_def → fits_columns table_def.columns row ≡ true → Moves table_defs old new (changed_at column_index table_def row)

-- The text was run with these parameters: where it takes rows of some definition's table away, those are taken away.
abbrev pub DeletesRows : List ℕ → Row → State → State → Type 0
DeletesRows text values old new =
    (table_defs : List TableDef) (column_index : ℕ) (table_def : TableDef) (key : List ℕ) → AreApart table_defs → slice_get table_defs column_index ≡ Some table_def → IsDeleteStatement text table_def key → Moves table_defs old new (taken_at column_index key values)

-- each text makes the table of the definition with its index
abbrev pub AreCreateStatements : List (List ℕ) → List TableDef → Type 0
AreCreateStatements texts table_defs = AllZip IsCreateStatement texts table_defs

-- Where the tables are free they are made, and are empty, and tables that existed have the rows that they had. Nothing is
-- committed, and the transaction goes on.
pub record Founds (table_defs : List TableDef) (old new : State) : Type 0 where
  pub has_rows : IsDatabase old.now → AreFree table_defs old.now.schema → HaveStoredRows table_defs new.now (λ _. [])
  pub kept : IsDatabase old.now → AreFree table_defs old.now.schema → (table_def : TableDef) (rows : List Row) → HasStoredRows old.now table_def rows → HasStoredRows new.now table_def rows
  pub others : IsDatabase old.now → AreFree table_defs old.now.schema → KeepsOtherTables table_defs old.now new.now
  pub shown : IsTrue old.is_open → IsTrue old.in_transaction → Shows old new new.now old.committed true

-- The texts were run: where they make the tables of these definitions, those are made.
abbrev pub CreatesTables : List (List ℕ) → State → State → Type 0
CreatesTables texts old new = (table_defs : List TableDef) → AreApart table_defs → AreCreateStatements texts table_defs → Founds table_defs old new

-- Where the tables were free, further ones that were free too, and are apart from them, still are.
abbrev pub KeepsFurtherNamesFree : List TableDef → Database → Database → Type 0
KeepsFurtherNamesFree table_defs old new = IsDatabase old → AreFree table_defs old.schema → (more : List TableDef) → AreApart (table_defs ++ more) → AreFree more old.schema → AreFree more new.schema

-- The texts were run: where they make the tables of these definitions, further tables can still be made.
abbrev pub KeepsNamesFree : List (List ℕ) → State → State → Type 0
KeepsNamesFree texts old new = (table_defs : List TableDef) → AreApart table_defs → AreCreateStatements texts table_defs → KeepsFurtherNamesFree table_defs old.now new.now
