-- That a database has the table of a definition, and with which rows.
use Rattle.std.specs.Prelude.{◌≡◌, ℕ, ◌<◌, ◌^◌, Bool, true, false, List, map, slice_get, Some, IsPermutation}
use Rattle.std.specs.List.{AllByRecursion, list_any}
use Rattle.sqlite.specs.Order.{Row}
use Rattle.sqlite.specs.Table.{Table}
use Rattle.sqlite.specs.Schema.{Schema}
use Rattle.sqlite.specs.Effect.{Database, IsDatabase}
use Rattle.sqlite.specs.Change.{is_used}
use Rattle.sqlite.specs.Does.{lacks_sequence}
use Rattle.sqlite_schema.specs.declared.schema.Index.{Index}
use Rattle.sqlite_schema.specs.Names.{same_name, table_named}
use Rattle.sqlite_schema.specs.Rules.{guards}
use Rattle.sqlite_rules.specs.Lists.{Has}
use Rattle.sqlite_trees.specs.View.{IsShaped}
use Rattle.sqlite_trees.specs.declared.store.Shape.TheVariants as shape
use Rattle.sqlite_value.specs.Keys.{plain}
use Rattle.sql_tables.specs.TableDefs.{TableDef, table_of}
use Rattle.sql_tables.specs.Rows.{columns_of}

-- no foreign key names the definition's table
abbrev pub IsUnnamed : Schema → TableDef → Type 0
IsUnnamed schema table_def = AllByRecursion (λ (t : Table). AllByRecursion (λ ref. same_name table_def.name ref.parent ≡ false) t.references) schema.tables

-- The table with this index and tree is declared by the definition, no tree is another table's, no UNIQUE was added, and no
-- foreign key names it.
pub record IsDeclared (schema : Schema) (table_def : TableDef) (at tree : ℕ) : Type 0 where
  pub named : table_named schema table_def.name ≡ Some at
  pub listed : slice_get schema.tables at ≡ Some (table_of table_def tree)
  pub own : (t : Table) → Has schema.tables t → t.tree ≡ tree → t ≡ table_of table_def tree
  pub keyed : (i : Index) → Has schema.indexes i → guards i (table_of table_def tree) ≡ true → (i.order ≡ plain) × Has table_def.keys i.columns
  pub alone : IsUnnamed schema table_def

-- The definition's table is declared somewhere, in a tree that a query can read.
pub record HasTable (schema : Schema) (table_def : TableDef) : Type 0 where
  pub at : ℕ
  pub tree : ℕ
  pub declared : IsDeclared schema table_def at tree
  pub low : tree < 2 ^ 31

-- The name of the definition's table is that of no table, index or view, and no foreign key names it.
pub record IsFree (schema : Schema) (table_def : TableDef) : Type 0 where
  pub unused : is_used schema table_def.name ≡ false
  pub alone : IsUnnamed schema table_def

-- The definition's table has these rows, in any order.
pub record HasStoredRows (db : Database) (table_def : TableDef) (rows : List Row) : Type 0 where
  pub at : ℕ
  pub tree : ℕ
  pub declared : IsDeclared db.schema table_def at tree
  -- the rowids are integers and rise, so none comes twice
  pub shaped : IsShaped shape.Table (db.trees tree)
  pub same : IsPermutation rows (map (columns_of table_def) (db.trees tree))

-- ---- all tables of a list of table definitions

-- the rows of each table, by the index of its definition
abbrev pub Contents : Type 0
Contents = ℕ → List Row

-- The database is sound, and each of the definitions' tables has these rows.
pub record HaveStoredRows (table_defs : List TableDef) (db : Database) (contents : Contents) : Type 0 where
  pub sound : IsDatabase db
  pub each : (i : ℕ) (table_def : TableDef) → slice_get table_defs i ≡ Some table_def → HasStoredRows db table_def (contents i)

-- the name is that of some table definition
abbrev pub is_among : List TableDef → List ℕ → Bool
is_among table_defs name = list_any (λ (f : TableDef). same_name f.name name) table_defs

-- The tables of other names are as they were.
pub record KeepsOtherTables (table_defs : List TableDef) (old new : Database) : Type 0 where
  pub kept : (t : Table) → Has old.schema.tables t → is_among table_defs t.name ≡ false → Has new.schema.tables t × (new.trees t.tree ≡ old.trees t.tree)

-- Each definition's table is free to be made, and no table still wants SQLite's own table of counts, which would be made first.
pub record AreFree (table_defs : List TableDef) (schema : Schema) : Type 0 where
  pub each : (i : ℕ) (table_def : TableDef) → slice_get table_defs i ≡ Some table_def → IsFree schema table_def
  pub counted : lacks_sequence schema ≡ false
