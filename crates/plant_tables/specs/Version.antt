-- What table meta says of the version of the tables.
use Rattle.std.specs.Prelude.{◌≡◌, ◌≤◌, ◌≤ℤ◌, ◌∷◌, [], ℕ, ℤ, pos, All}
use Rattle.sqlite.specs.Effect.{Database}
use Rattle.sqlite.specs.Order.{Row}
use Rattle.sqlite.specs.Schema.{Schema}
use Rattle.sqlite.specs.declared.types.Value.TheVariants.{Int}
use Rattle.sql_queries.specs.{Lists}
use Rattle.plant_base.specs.{newest_schema, greatest_moment, greatest_seq}
use Rattle.sql_tables.specs.{HasTable, IsFree}
use Rattle.plant_tables.specs.DeskTableDefs.{meta_table, table_defs_of, later_table_defs}
use Rattle.plant_tables.specs.declared.finding.MetaNumbers.{MetaNumbers}

-- the row of these numbers
abbrev pub row_of : MetaNumbers → Row
row_of meta = Int meta.k ∷ Int meta.schema ∷ Int meta.seq ∷ Int meta.at ∷ []

-- four numbers: k is 1, the schema is at least 1, seq is 0 to the greatest, and at is a moment
pub record IsValidMeta (row : Row) : Type 0 where
  pub schema : ℤ
  pub seq : ℤ
  pub at : ℤ
  pub is : row ≡ Int (pos 1) ∷ Int schema ∷ Int seq ∷ Int at ∷ []
  pub schema_low : pos 1 ≤ℤ schema
  pub seq_low : pos 0 ≤ℤ seq
  pub seq_high : seq ≤ℤ pos greatest_seq
  pub at_low : pos 0 ≤ℤ at
  pub at_high : at ≤ℤ pos greatest_moment

-- table meta has one row, which is valid and has this version
pub record IsVersion (db : Database) (n : ℤ) : Type 0 where
  pub row : Row
  pub alone : Lists db meta_table (row ∷ [])
  pub valid : IsValidMeta row
  pub reports : valid.schema ≡ n

-- the desk knows the schema
abbrev pub IsKnown : ℕ → Type 0
IsKnown schema = (1 ≤ schema) × (schema ≤ newest_schema)

-- the tables of the schema are declared as their definitions say, and none that a later one adds exists
abbrev pub HasTablesOf : ℕ → Schema → Type 0
HasTablesOf schema there = All (HasTable there) (table_defs_of schema) × All (IsFree there) (later_table_defs schema)
