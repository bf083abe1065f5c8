-- A store that holds the tables of a state in a schema, whichever it is, and what a migration leaves of it.
use Rattle.std.specs.Prelude.{◌≡◌, ◌⊎◌, ◌<◌, ◌≤◌, ◌-◌, ℕ, pos, List, Some, nat_le, if◌then◌else◌, IsTrue}
use Rattle.sqlite.specs.Order.{Row}
use Rattle.sqlite.specs.Tree.{Trees}
use Rattle.sqlite.specs.Effect.{Database}
use Rattle.sqlite.specs.State as store
use Rattle.plant_base.specs.{State, Meta, Position}
use Rattle.plant_view.specs.{tables_of, IsWholeIn}
use Rattle.sql_tables.specs.{KeepsOtherTables}
use Rattle.plant_tables.specs.{desk_table_defs, meta_table, IsAtOf, FindsOf}
use Rattle.plant_tables_columns.specs.{HasValidValues, only_meta, BookedRow}
use Rattle.plant_tables.specs.{AreInOrder, Rows, rows_from, AreLoaded, Loads, IsVersion, IsKnown, Loaded}
use Rattle.plant_migrate.specs.Migrated.{edges_from}
use Rattle.plant_migrate.specs.Steps.{IsMigratedBy}

-- The store is at the tables of the state in a schema that is known, and that lacks no row of the state; their keys rise,
-- and each value obeys its rule.
pub record IsReadable (version : ℕ) (c : store.State) (s : State) : Type 0 where
  pub known : IsKnown version
  pub at : IsAtOf version c (tables_of version s)
  pub whole : IsWholeIn version s
  pub ordered : AreInOrder (tables_of version s)
  pub valid : HasValidValues (tables_of version s)

-- the schema of tables of a version once they are migrated to this one, if they are below it
abbrev pub migrated_to : ℕ → ℕ → ℕ
migrated_to version to = if nat_le to version then version else to

-- table meta has a version that is known
abbrev pub HasKnownVersion : Database → Type 0
HasKnownVersion db = (version : ℕ) × IsVersion db (pos version) × IsKnown version

-- ---- what a stop leaves

-- the tables of the state are to be found, in some version from the one to the other
abbrev pub FindsBetween : ℕ → ℕ → State → Database → Trees → Type 0
FindsBetween version to s old db = (later : ℕ) × (version ≤ later) × (later ≤ to) × FindsOf later old db (tables_of later s)

-- The store is at the tables of the state in a version between the two, and foreign tables are as they were.
pub record IsBetween (version to : ℕ) (old new : store.State) (s : State) : Type 0 where
  pub later : ℕ
  pub above : version < later
  pub below : later < to
  pub at : IsAtOf later new (tables_of later s)
  pub others : KeepsOtherTables desk_table_defs old.now new.now

-- A migration to this schema was cut short: a stop leaves at least one, and nothing else than the tables of the state in a
-- version from the one before to the one that they are migrated to, with the same foreign tables; and the store,
-- where it is still open, shows what it showed, or those of a version between the two.
pub record FailureLeavesAmid (version to : ℕ) (old new : store.State) (s : State) : Type 0 where
  pub crash_states : ∥ ((db : Trees) × new.may_leave db) ∥₁
  pub nothing_else : (db : Trees) → new.may_leave db → FindsBetween version (migrated_to version to) s old.now db
  pub shows : IsTrue new.is_open → (IsAtOf version new (tables_of version s) × (new.now ≡ old.now)) ⊎ IsBetween version to old new s

-- The rows of the tables of the first schema in this database obey the rules of values, and have this position and these
-- bookings.
pub record AreRowsRead (db : Database) (position : Position) (booked : List BookedRow) : Type 0 where
  pub loaded : Loaded
  pub are : AreLoaded 1 db loaded
  pub rows : Rows
  pub valid : rows_from loaded ≡ Some rows
  pub at : rows.meta.position ≡ position
  pub movements : rows.movements ≡ booked

-- The one row of table meta in this database obeys the rules of values, and has this position.
pub record IsMetaRead (db : Database) (position : Position) : Type 0 where
  pub stored : List Row
  pub are : Loads db meta_table stored
  pub meta : Meta
  pub valid : only_meta stored ≡ Some meta
  pub at : meta.position ≡ position

-- what is read of tables of a version before they are migrated: of the first all rows, and of a later one table meta alone
abbrev pub IsRead : ℕ → Database → Position → List BookedRow → Type 0
IsRead version db position booked = ((version ≡ 1) × AreRowsRead db position booked) ⊎ ((1 < version) × IsMetaRead db position)

-- In the trees the tables of this version are to be found, migrated towards the other by what was read of them.
pub record IsMigratedFrom (version to : ℕ) (old : store.State) (trees : Trees) : Type 0 where
  pub position : Position
  pub booked : List BookedRow
  pub read : IsRead version old.now position booked
  pub migrated : IsMigratedBy version (to - version) position (edges_from version booked) old trees

-- Table meta has a version below the one that is asked for, and in the trees its tables are to be found, migrated.
pub record IsMigratedTo (to : ℕ) (old : store.State) (trees : Trees) : Type 0 where
  pub version : ℕ
  pub reported : IsVersion old.now (pos version)
  pub below : version < to
  pub migrated : IsMigratedFrom version to old trees
