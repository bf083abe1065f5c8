-- The tables of the desk that a store has, and those that a stop may leave of it.
use Rattle.std.specs.Prelude.{◌≡◌, ◌⊎◌, ℕ, IsTrue}
use Rattle.sqlite.specs.Tree.{Trees}
use Rattle.sqlite.specs.Schema.{Schema}
use Rattle.sqlite.specs.Effect.{Database, IsDatabase}
use Rattle.sqlite.specs.State.{State}
use Rattle.plant_base.specs.{newest_schema, opening}
use Rattle.plant_view.specs.{tables_of}
use Rattle.plant_view.specs.TableRows.{Tables}
use Rattle.sql_tables.specs.{KeepsOtherTables, AreFree, IsSettled}
use Rattle.plant_tables.specs.DeskTableDefs.{desk_table_defs}
use Rattle.plant_tables.specs.Keyed.{HoldsTablesOf, HoldsTables}

-- The store is open and in no transaction, holds these tables of a schema, and a stop leaves just them.
pub record IsAtOf (version : ℕ) (s : State) (t : Tables) : Type 0 where
  pub settled : IsSettled s
  pub holds : HoldsTablesOf version s.now t

-- those of the newest schema
abbrev pub IsAt : State → Tables → Type 0
IsAt = IsAtOf newest_schema

-- What an opening of these trees finds: these tables of a schema, and the foreign ones as they were.
pub record FindsOf (version : ℕ) (before : Database) (trees : Trees) (t : Tables) : Type 0 where
  pub schema : Schema
  pub holds : HoldsTablesOf version (record { schema = schema; trees = trees }) t
  pub others : KeepsOtherTables desk_table_defs before (record { schema = schema; trees = trees })

-- those of the newest schema
abbrev pub FindsTables : Database → Trees → Tables → Type 0
FindsTables = FindsOf newest_schema

-- A transaction that leads from tables of one schema to those of another was cut short: a stop leaves at least one, and
-- nothing else than the tables before or after it, and the store, where it is still open, shows those before.
pub record FailureLeavesOf (version later : ℕ) (old new : State) (before after : Tables) : Type 0 where
  pub crash_states : ∥ ((db : Trees) × new.may_leave db) ∥₁
  pub nothing_else : (db : Trees) → new.may_leave db → FindsOf version old.now db before ⊎ FindsOf later old.now db after
  pub shows : IsTrue new.is_open → IsAtOf version new before × (new.now ≡ old.now)

-- one between tables of the newest
abbrev pub FailureLeaves : State → State → Tables → Tables → Type 0
FailureLeaves = FailureLeavesOf newest_schema newest_schema

-- ---- the making of the tables

-- the tables of a desk that has accepted nothing
abbrev pub opening_tables : Tables
opening_tables = tables_of newest_schema opening

-- From a sound database in which no table, index or view bears one of their names, the tables were made, those of a desk
-- that has accepted nothing, and foreign tables are as they were.
abbrev pub MakesDesk : Database → Database → Type 0
MakesDesk old new = IsDatabase old → AreFree desk_table_defs old.schema → HoldsTables new opening_tables × KeepsOtherTables desk_table_defs old new

-- The making was cut short: a stop leaves at least one, and nothing else than what was there before or the tables of a
-- desk that has accepted nothing, and the store, where it is still open, shows what was there before.
pub record IsUnopened (old new : State) : Type 0 where
  pub crash_states : ∥ ((db : Trees) × new.may_leave db) ∥₁
  pub nothing_else : (db : Trees) → new.may_leave db → (db ≡ old.now.trees) ⊎ FindsTables old.now db opening_tables
  pub shows : IsTrue new.is_open → IsSettled new × (new.now ≡ old.now)
