-- Indexes that serve lookups, and bar no row: how one is declared, the text that makes it, and what such texts leave.
use Rattle.std.specs.Prelude.{◌≡◌, ℕ, Bool, true, false, not, List, [], slice_range, slice_get, Some, Ok, IsTrue}
use Rattle.std.specs.List.{AllByRecursion, AllZip, list_all}
use Rattle.sqlite.specs.Order.{Row}
use Rattle.sqlite.specs.Schema.{Schema}
use Rattle.sqlite.specs.State.{State, Shows}
use Rattle.sqlite_schema.specs.declared.schema.Index.{Index}
use Rattle.sqlite_schema.specs.Names.{same_name}
use Rattle.sqlite_value.specs.Keys.{plain}
use Rattle.sqlite_rules.specs.Lists.{Has}
use Rattle.sqlite_ast.specs.declared.CreateIndex as ast
use Rattle.sqlite_ast.specs.declared.Statement.{Statement}
use Rattle.sqlite_ast.specs.declared.Statement.TheVariants as written
use Rattle.sqlite_syntax.specs.declared.statement.Parsed.{Parsed}
use Rattle.sqlite_resolve.specs.Define as define
use Rattle.sqlite_resolve.specs.Compile.{first, is_reserved}
use Rattle.sql_tables.specs.TableDefs.{TableDef, table_of}
use Rattle.sql_tables.specs.StoredRows.{Contents, IsDeclared, HasStoredRows, HaveStoredRows, KeepsOtherTables, AreFree}

-- an index of the definition's table, over the columns with these indexes, the first column being 1
pub record IndexDef : Type 0 where
  pub name : List ℕ
  pub table : TableDef
  pub column_indexes : List ℕ

-- the index that is declared so, at a tree of its own, where the table has this tree
abbrev pub index_of : IndexDef → ℕ → ℕ → Index
index_of index table tree = record { name = index.name; tree = tree; table = table; columns = index.column_indexes; order = plain; is_unique = false }

-- The index is listed, and its table is declared.
pub record HasIndex (schema : Schema) (index : IndexDef) : Type 0 where
  pub at : ℕ
  pub table : ℕ
  pub tree : ℕ
  pub declared : IsDeclared schema index.table at table
  pub listed : Has schema.indexes (index_of index table tree)

-- ---- a text that makes the index

pub record IsCreateIndexStatement (text : List ℕ) (index : IndexDef) : Type 0 where
  pub parsed : Parsed
  pub reads : first text ≡ Ok parsed
  pub untimed : parsed.formats ≡ []
  pub whole : slice_range text parsed.start parsed.end ≡ text
  pub def : ast.CreateIndex
  pub statement : parsed.statement ≡ written.CreateIndex def
  pub unconditional : def.if_missing ≡ false
  pub table_is : def.table ≡ index.table.name
  pub own_name : is_reserved index.table.name ≡ false
  pub defines : (tree : ℕ) → define.index (table_of index.table tree) def ≡ Ok (index_of index tree 0)

-- each text makes the index at its position
abbrev pub AreCreateIndexStatements : List (List ℕ) → List IndexDef → Type 0
AreCreateIndexStatements texts indexes = AllZip IsCreateIndexStatement texts indexes

-- ---- what the texts leave

-- each index is of some definition's table
abbrev pub AreOf : List IndexDef → List TableDef → Type 0
AreOf indexes table_defs = AllByRecursion (λ (index : IndexDef). Has table_defs index.table) indexes

-- no index bears the name of one of the tables
abbrev pub are_named_apart : List IndexDef → List TableDef → Bool
are_named_apart indexes table_defs = list_all (λ (index : IndexDef). list_all (λ (table_def : TableDef). not (same_name index.name table_def.name)) table_defs) indexes

-- Where the tables of the definitions exist the indexes are made, and each table that existed has the rows that it had. Nothing is
-- committed, and the transaction goes on. Tables that could be made, and whose names are not those of the indexes, still can.
pub record AddsIndexes (table_defs : List TableDef) (indexes : List IndexDef) (old new : State) : Type 0 where
  pub made : (contents : Contents) → HaveStoredRows table_defs old.now contents → (i : ℕ) (index : IndexDef) → slice_get indexes i ≡ Some index → HasIndex new.now.schema index
  pub has_rows : (contents : Contents) → HaveStoredRows table_defs old.now contents → HaveStoredRows table_defs new.now contents
  pub kept : (contents : Contents) → HaveStoredRows table_defs old.now contents → (table_def : TableDef) (rows : List Row) → HasStoredRows old.now table_def rows → HasStoredRows new.now table_def rows
  pub others : (contents : Contents) → HaveStoredRows table_defs old.now contents → KeepsOtherTables table_defs old.now new.now
  pub free : (contents : Contents) → HaveStoredRows table_defs old.now contents → (more : List TableDef) → are_named_apart indexes more ≡ true → AreFree more old.now.schema → AreFree more new.now.schema
  pub shown : IsTrue old.is_open → IsTrue old.in_transaction → Shows old new new.now old.committed true

-- The texts were run: where they make indexes of tables of these definitions, those are made.
abbrev pub MakesIndexes : List (List ℕ) → State → State → Type 0
MakesIndexes texts old new = (table_defs : List TableDef) (indexes : List IndexDef) → AreOf indexes table_defs → AreCreateIndexStatements texts indexes → AddsIndexes table_defs indexes old new

-- ---- the part of what the parser reads, for those who compute it

abbrev pub index_in : Statement → ast.CreateIndex
index_in (written.CreateIndex def) = def
index_in _ = record { is_unique = false; if_missing = false; name = []; table = []; columns = [] }
