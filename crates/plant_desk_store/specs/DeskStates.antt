-- What the store of a desk represents, and what a stop leaves of it, in states of the desk.
use Rattle.std.specs.Prelude.{◌≡◌, ◌⊎◌, ℕ, Bool, false, Result, Ok, Err, IsTrue}
use Rattle.sqlite.specs.Tree.{Trees}
use Rattle.sqlite.specs.Schema.{Schema}
use Rattle.sqlite.specs.Effect.{Database}
use Rattle.sqlite.specs.State as store
use Rattle.sqlite_catalog.specs.Listing.{IsSound}
use Rattle.plant_base.specs.{State, newest_schema, Envelope}
use Rattle.plant_view.specs.{tables_of, IsWholeIn}
use Rattle.plant_rules.specs.{step}
use Rattle.plant_invariant.specs.StateInvariant.{StateInvariant}
use Rattle.sql_tables.specs.{KeepsOtherTables}
use Rattle.plant_tables.specs.{desk_table_defs, IsAt, HoldsTablesOf}
use Rattle.plant_keeper.specs.{States, reply}
use Rattle.plant_questions.specs.{DeskFault, Reply}
use Rattle.plant_questions.specs.declared.reply.DeskFault.TheVariants.{Store, Memory, Shut}

-- The state is valid, and the store, where it is open, shows its tables.
pub record ShowsState (c : store.State) (s : State) : Type 0 where
  pub valid : StateInvariant s
  pub shows : IsTrue c.is_open → IsAt c (tables_of newest_schema s)

-- What an opening of these trees finds are the tables of this valid state, of a version that lacks no row of the state.
pub record FindsStateOf (version : ℕ) (trees : Trees) (s : State) : Type 0 where
  pub valid : StateInvariant s
  pub schema : Schema
  pub holds : HoldsTablesOf version (record { schema = schema; trees = trees }) (tables_of version s)
  pub whole : IsWholeIn version s

-- those of the newest
abbrev pub FindsState : Trees → State → Type 0
FindsState = FindsStateOf newest_schema

-- A stop leaves something, and whatever it leaves are the tables of one of these states.
pub record HasCrashStates (c : store.State) (states : States) : Type 0 where
  pub something : ∥ ((db : Trees) × c.may_leave db) ∥₁
  pub nothing_else : (db : Trees) → c.may_leave db → (s : State) × states s × FindsState db s

-- The store represents the state, and a stop leaves that alone.
pub record IsDurablyAt (c : store.State) (s : State) : Type 0 where
  pub represents : ShowsState c s
  pub crash_states : HasCrashStates c (λ u. u ≡ s)

-- A desk over the store represents the state: a stop of one that isn't shut leaves that alone.
abbrev pub Represents : store.State → Bool → States
Represents c shut s = ShowsState c s × (shut ≡ false → HasCrashStates c (λ u. u ≡ s))

-- The foreign tables are as they are in this database: in what the store shows, where it is
-- open, and in whatever a stop leaves.
pub record KeepsForeignTables (before : Database) (c : store.State) : Type 0 where
  pub shows : IsTrue c.is_open → KeepsOtherTables desk_table_defs before c.now
  pub crash_states : (trees : Trees) (schema : Schema) → c.may_leave trees → IsSound schema trees → KeepsOtherTables desk_table_defs before (record { schema = schema; trees = trees })

-- The store of a desk represents some state, and the foreign tables are as in this database.
pub record HasForeignTables (c : store.State) (shut : Bool) (before : Database) : Type 0 where
  pub state : State
  pub represents : Represents c shut state
  pub others : KeepsForeignTables before c

-- the outcome of a command over a store that represented s
abbrev pub Executed : State → store.State → Envelope → Result Reply DeskFault → Type 0
Executed s new e (Ok r) = (r ≡ reply s e) × IsDurablyAt new (step s e)
Executed s new e (Err Store) = ShowsState new s × HasCrashStates new (λ u. (u ≡ s) ⊎ (u ≡ step s e))
Executed s new e (Err Memory) = IsDurablyAt new s
Executed s new e (Err Shut) = ⊥
