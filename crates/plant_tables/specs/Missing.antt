-- Indexes that tables of the newest schema lack, and the outcome of making them.
use Rattle.std.specs.Prelude.{◌≡◌, ◌≢◌, ℕ, Bool, false, true, not, List, filter, map, Option, Some, None, Result, MatchResult, IfErr, if◌then◌else◌}
use Rattle.sqlite.specs.Change.{is_used}
use Rattle.sqlite.specs.Effect.{Database}
use Rattle.sqlite.specs.Schema.{Schema}
use Rattle.sqlite.specs.State.{State, HasCleanDisk, Survives}
use Rattle.sqlite_rules.specs.Lists.{Has}
use Rattle.plant_view.specs.TableRows.{Tables}
use Rattle.sql_tables.specs.{CreateIndexStatement, StoreFault, IndexDef, HasIndex, AreOf, AreCreateIndexStatements, KeepsOtherTables}
use Rattle.sql_tables.specs.declared.fault.StoreFault.TheVariants as fault
use Rattle.plant_tables.specs.DeskTableDefs.{desk_table_defs}
use Rattle.plant_tables.specs.DeskIndexes.{desk_indexes, HasIndexes}
use Rattle.plant_tables.specs.DeskCrashStates.{IsAt, FailureLeaves}
use Rattle.plant_tables.specs.Keyed.{HoldsTables}

-- the index, where its name is that of no table, index or view
abbrev pub missing_in : Schema → CreateIndexStatement → Option CreateIndexStatement
missing_in schema text = if is_used schema text.name.now then None else Some text

-- those of the newest schema whose names are free
abbrev pub is_missing : Schema → IndexDef → Bool
is_missing schema index = not (is_used schema index.name)

abbrev pub lacking : Schema → List IndexDef
lacking schema = filter (is_missing schema) desk_indexes

-- the texts make just these
abbrev pub CreateLacking : Schema → List CreateIndexStatement → Type 0
CreateLacking schema texts = AreCreateIndexStatements (map (λ (text : CreateIndexStatement). text.sql.now) texts) (lacking schema)

-- the name of each index is taken
abbrev pub AreAllTaken : Schema → Type 0
AreAllTaken schema = (index : IndexDef) → Has desk_indexes index → is_used schema index.name ≡ true

-- The texts were run: whatever tables of the desk the one database holds, the other holds them, with the indexes that the
-- texts make, and foreign tables are as they were.
abbrev pub CreatesIndexes : List (List ℕ) → Database → Database → Type 0
CreatesIndexes texts old new =
    (indexes : List IndexDef) → AreOf indexes desk_table_defs → AreCreateIndexStatements texts indexes → (t : Tables) → HoldsTables old t → HoldsTables new t × KeepsOtherTables desk_table_defs old new × HasIndexes indexes new.schema

-- Each index of the desk whose name was free is there, and foreign tables are as they were.
pub record AddsMissing (old new : Database) : Type 0 where
  pub made : (index : IndexDef) → Has desk_indexes index → is_used old.schema index.name ≡ false → HasIndex new.schema index
  pub others : KeepsOtherTables desk_table_defs old new

-- whatever tables of the desk the one database holds, the other holds them, with the indexes that they lacked
abbrev pub CreatesMissingIndexes : Database → Database → Type 0
CreatesMissingIndexes old new = (t : Tables) → HoldsTables old t → HoldsTables new t × AddsMissing old new

-- The indexes that the tables lacked were made, or weren't.
pub record HasCreatedIndexes (old new : State) (r : Result (Unit {0}) StoreFault) : Type 0 where
  pub honest : HasCleanDisk new → HasCleanDisk old
  pub gained : HasCleanDisk new → (t : Tables) → IsAt old t → MatchResult r (λ _. IsAt new t × AddsMissing old.now new.now) (λ _. FailureLeaves old new t t)
  -- where no name is free, and for want of memory, nothing is written
  pub no_crash_state_added : AreAllTaken old.now.schema → Survives old new (λ _. ⊥)
  pub unmade : IfErr r (λ f. f ≢ fault.Store → Survives old new (λ _. ⊥))
  pub survives : Survives old new (λ trees. (db : Database) × CreatesMissingIndexes old.now db × (trees ≡ db.trees))
