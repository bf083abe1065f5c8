-- The outcome of work over a file.
use Rattle.std.specs.Prelude.{◌≡◌, ℕ, List, Bool, codes, false, Result, Ok}
use Rattle.sqlite.specs.State.{State, HasCleanDisk}
use Rattle.sqlite.specs.Held.{Held, state}
use Rattle.sqlite.specs.declared.error.Error.{Error}
use Rattle.sqlite.specs.declared.error.Error.TheVariants.{SqliteFailure}
use Rattle.sqlite.specs.declared.error.ErrorCode.TheVariants.{OutOfMemory}
use Rattle.sqlite_trees.specs.View.{IsRolledBack}
use Rattle.sqlite_trees.specs.declared.store.Store.{Ghosts}
use Rattle.sql_queries.specs.{IsNewlyOpened}

-- the file name that means a new store in memory
abbrev pub in_memory : List ℕ
in_memory = codes ":memory:"

abbrev pub IsOutOfMemory : Error → Type 0
IsOutOfMemory error = error ≡ SqliteFailure OutOfMemory

-- what an opening gave: a store, or why it didn't open
abbrev pub Opens : Type 0 → Type 1
Opens S = Result (Held S) Error → Type 0

-- a store that was just opened, in no transaction
pub record IsJustOpened {S : Type 0} (g : Ghosts S) (store : Held S) : Type 0 where
  pub newly : HasCleanDisk (state g store) → IsNewlyOpened (state g store)
  pub rests : (state g store).in_transaction ≡ false

-- The work was done over the store that its opening gave, and this came of it; then that store, as the work gave it back, was closed, or couldn't
-- be: what wasn't committed is undone before. `opens`, `gives` and `closes` are what the opening, the work and the closing promise: of what was
-- opened; of the store before the work, the outcome and the store after it; of the store that is closed and whether it could be.
pub record WasDone {S T : Type 0} (g : Ghosts S) (opens : Opens S) (gives : State → T → State → Type 0) (closes : S → Bool → Type 0) (outcome : T) (is_closed : Bool) : Type 0 where
  pub before : Held S
  pub after : Held S
  pub store : S
  pub opened : opens (Ok before)
  pub just : IsJustOpened g before
  pub given : gives (state g before) outcome (state g after)
  pub honest : HasCleanDisk (state g after) → HasCleanDisk (state g before)
  pub undone : IsRolledBack (g.view after.store) (g.view store)
  pub closed : closes store is_closed

-- the same of a store that is open already
abbrev pub WasWorkedOver : {S T : Type 0} (g : Ghosts S) → Held S → (gives : State → T → State → Type 0) (closes : S → Bool → Type 0) (outcome : T) (is_closed : Bool) → Type 0
WasWorkedOver {S} g before gives closes outcome is_closed = (after : Held S) × (store : S) × gives (state g before) outcome (state g after)
    × (HasCleanDisk (state g after) → HasCleanDisk (state g before)) × IsRolledBack (g.view after.store) (g.view store) × closes store is_closed
