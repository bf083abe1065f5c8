-- The state whose tables are the rows that were loaded.
use Rattle.std.specs.Prelude.{◌≡◌, Some, None}
use Rattle.sqlite.specs.Effect.{Database}
use Rattle.plant_base.specs.{State}
use Rattle.plant_view.specs.{state_without_kept, tables_of}
use Rattle.plant_invariant.specs.StateInvariant.{StateInvariant}
use Rattle.sql_tables.specs.{HaveStoredRows}
use Rattle.plant_tables.specs.{table_defs_of, HoldsTablesOf}
use Rattle.plant_tables.specs.{AreRising, contents_loaded, Loaded, Rows, rows_from, tables_in, AreWhole}
use Rattle.plant_check_rules.specs.{first_broken, first_broken_of}

-- the rows without the columns that follow from others
abbrev pub state_in : Rows → State
state_in r = state_without_kept (tables_in r)

-- the rows are those of a valid state's tables, in the schema that their table meta names
pub record AreOfValidState (r : Rows) : Type 0 where
  pub valid : StateInvariant (state_in r)
  pub whole : AreWhole r
  pub tables : tables_in r ≡ tables_of r.meta.schema (state_in r)

-- these rows were loaded, each table by its key, and break no rule
pub record AreUnbroken (x : Loaded) (r : Rows) : Type 0 where
  pub rising : AreRising r.meta.schema x
  pub read : rows_from x ≡ Some r
  pub unbroken : first_broken_of r ≡ None

-- ---- laws

-- what breaks no rule was read as rows that break none
abbrev pub UnbrokenIsRead : Type 0
UnbrokenIsRead = (x : Loaded) → first_broken x ≡ None → (r : Rows) × (rows_from x ≡ Some r) × (first_broken_of r ≡ None)

-- rows that break no rule are those of a valid state's tables
abbrev pub ChecksPassImpliesInvariant : Type 0
ChecksPassImpliesInvariant = (x : Loaded) (r : Rows) → AreUnbroken x r → AreOfValidState r

-- and the database that they were loaded from holds these tables
abbrev pub UnbrokenHolds : Type 0
UnbrokenHolds = (db : Database) (x : Loaded) (r : Rows) → AreUnbroken x r → HaveStoredRows (table_defs_of r.meta.schema) db (contents_loaded x)
    → HoldsTablesOf r.meta.schema db (tables_of r.meta.schema (state_in r))
