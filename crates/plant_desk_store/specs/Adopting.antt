-- How a store that was opened is adopted.
use Rattle.std.specs.Prelude.{◌≡◌, ◌⊎◌, ◌<◌, ◌≤◌, ℕ, pos, Option, Some, None, IsTrue, ⊤}
use Rattle.sqlite.specs.Tree.{Trees}
use Rattle.sqlite.specs.Effect.{Database}
use Rattle.sqlite.specs.State as store
use Rattle.sqlite.specs.State.{HasCleanDisk}
use Rattle.plant_base.specs.{State, opening, newest_schema}
use Rattle.plant_view.specs.{tables_of, IsWholeIn}
use Rattle.plant_invariant.specs.StateInvariant.{StateInvariant}
use Rattle.sql_tables.specs.{AreFree, Keeps}
pub use Rattle.sql_queries.specs.Opened.{IsNewlyOpened}
pub use Rattle.plant_check_rules.specs.Damaged.{LacksTables, AreFirstBroken, IsFirstBroken, IsDamaged}
use Rattle.plant_tables.specs.{desk_table_defs, later_table_defs, MakesDesk, IsAtOf, FindsTables, opening_tables, HoldsTablesOf}
use Rattle.plant_tables.specs.{IsVersion, IsKnown, Loaded}
use Rattle.plant_migrate.specs.{IsBetween, FindsMigratable}
use Rattle.plant_check_rules.specs.{first_broken, Rule}
use Rattle.plant_keeper.specs.{States}
use Rattle.plant_desk_store.specs.DeskStates.{IsDurablyAt, FindsStateOf}
use Rattle.plant_desk_store.specs.declared.adopting.AdoptFault.{AdoptFault}
use Rattle.plant_desk_store.specs.declared.adopting.AdoptFault.TheVariants as fault

-- The database holds the tables of a valid state, of a version that can be read and that lacks no row of the state.
pub record HoldsValidState (version : ℕ) (db : Database) (s : State) : Type 0 where
  pub known : IsKnown version
  pub valid : StateInvariant s
  pub holds : HoldsTablesOf version db (tables_of version s)
  pub whole : IsWholeIn version s

-- the store had none of the desk's tables, and the desk represents the opening state; or it had those of a valid state, of
-- some version, and the desk represents that
abbrev pub AdoptedFrom : store.State → States → Type 0
AdoptedFrom c represents = (AreFree desk_table_defs c.now.schema × represents opening) ⊎ ((version : ℕ) × ((s : State) × HoldsValidState version c.now s × represents s))

-- Whatever valid state's tables were there, the store represents that state, and a stop leaves that alone.
abbrev pub KeepsValidState : store.State → store.State → Type 0
KeepsValidState old new = HasCleanDisk new → IsNewlyOpened old → (version : ℕ) (s : State) → HoldsValidState version old.now s → IsDurablyAt new s

-- the store is at the tables of the state in a version above this one and below the newest
abbrev pub IsOnTheWay : ℕ → store.State → State → Type 0
IsOnTheWay version c s = (later : ℕ) × (version < later) × (later < newest_schema) × IsAtOf later c (tables_of later s)

-- The store, where it is open, shows the tables of the state as they are in this version, or in one between it and the
-- newest, and a stop leaves something, and nothing else than tables of the state, of a version from this to the newest.
pub record IsRisingAt (version : ℕ) (c : store.State) (s : State) : Type 0 where
  pub valid : StateInvariant s
  pub shows : IsTrue c.is_open → IsAtOf version c (tables_of version s) ⊎ IsOnTheWay version c s
  pub something : ∥ ((db : Trees) × c.may_leave db) ∥₁
  pub nothing_else : (db : Trees) → c.may_leave db → (later : ℕ) × (version ≤ later) × (later ≤ newest_schema) × FindsStateOf later db s

-- Whatever valid state's tables were there, they still are, or a stop may leave those of a later version.
abbrev pub ValidStateSurvives : store.State → store.State → Type 0
ValidStateSurvives old new = HasCleanDisk new → IsNewlyOpened old → (version : ℕ) (s : State) → HoldsValidState version old.now s → IsRisingAt version new s

-- The tables of a valid state were there in an older version, and the store is at those of the same state in one between
-- that and the newest, with the same foreign tables.
pub record HasMigratedInPart (old new : store.State) : Type 0 where
  pub version : ℕ
  pub state : State
  pub represented : HoldsValidState version old.now state
  pub between : IsBetween version newest_schema old new state

-- The store, where it is open, shows what it showed; or, after a fault of the store and no other, what was migrated.
abbrev pub ShowsUnchanged : AdoptFault → store.State → store.State → Type 0
ShowsUnchanged f old new = IsTrue new.is_open → Keeps old new ⊎ ((f ≡ fault.Store) × HasMigratedInPart old new)

-- where a rule is named, it is this one, and where one is broken, it isn't reported as a fault of the store
abbrev pub IsBroken : Option Rule → AdoptFault → Type 0
IsBroken broken fault.Store = broken ≡ None
IsBroken broken (fault.Newer n) = ⊥
IsBroken broken (fault.Damaged r) = broken ≡ Some r
IsBroken broken fault.Memory = ⊤

-- where a rule is named, it is the first that the tables break
abbrev pub NamesFirst : Database → AdoptFault → Type 0
NamesFirst db fault.Store = ⊤
NamesFirst db (fault.Newer n) = ⊥
NamesFirst db (fault.Damaged r) = IsFirstBroken db r
NamesFirst db fault.Memory = ⊤

-- where a rule is named, it is the first that the loaded rows break, and where they break one, it isn't reported as a fault
-- of the store
abbrev pub BrokenBy : Loaded → AdoptFault → Type 0
BrokenBy x f = IsBroken (first_broken x) f

-- the fault has its cause
abbrev pub IsRefusedBy : Database → AdoptFault → Type 0
IsRefusedBy db fault.Store = ⊤
IsRefusedBy db (fault.Newer n) = IsVersion db (pos n) × (newest_schema < n)
IsRefusedBy db (fault.Damaged r) = IsDamaged db r
IsRefusedBy db fault.Memory = ⊤

-- ---- what a stop leaves

-- the trees of a database in which the making of the tables came to its end
abbrev pub AreMade : Database → Trees → Type 0
AreMade old trees = (db : Database) × MakesDesk old db × (trees ≡ db.trees)

-- The names of the desk's tables were free, and in the trees those of the opening state are to be found, with the same
-- foreign tables.
pub record IsOpened (old : Database) (trees : Trees) : Type 0 where
  pub free : AreFree desk_table_defs old.schema
  pub finds : FindsTables old trees opening_tables

-- The tables of a valid state were there in a schema below the newest, with the names free that later ones add, and in the
-- trees those of the same state in a later schema are to be found, with the same foreign tables and with the names
-- free that later ones than that add.
pub record IsMigrated (old : Database) (trees : Trees) : Type 0 where
  pub version : ℕ
  pub later : ℕ
  pub above : version < later
  pub known : later ≤ newest_schema
  pub represented : (s : State) × HoldsValidState version old s
  pub free : AreFree (later_table_defs version) old.schema
  pub finds : (s : State) → HoldsValidState version old s → FindsMigratable later old trees (tables_of later s)

-- what an adoption may have made of a database, in what a stop leaves
abbrev pub IsAdopted : Database → Trees → Type 0
IsAdopted old trees = IsOpened old trees ⊎ IsMigrated old trees

-- the same of a store as it was just opened
abbrev pub Adopts : store.State → Trees → Type 0
Adopts c trees = IsNewlyOpened c → IsAdopted c.now trees

-- some of the desk's tables are there, and not of a version that is migrated
pub record IsUnmigrated (db : Database) : Type 0 where
  pub taken : AreFree desk_table_defs db.schema → ⊥
  pub newest : (n : ℕ) → n < newest_schema → ¬ IsVersion db (pos n)
