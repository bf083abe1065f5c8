-- The outcome of a run over a store.
use Rattle.std.specs.Prelude.{◌≡◌, ◌⊎◌, ℕ, List, Bool, Option, Result, Err}
use Rattle.std.specs.Io.KnownBytes.{Consumes}
use Rattle.sqlite.specs.State as store
use Rattle.sqlite.specs.State.{HasCleanDisk}
use Rattle.plant_base.specs.{State, newest_schema}
use Rattle.plant_keeper.specs.{States}
use Rattle.plant_desk_store.specs.{IsNewlyOpened, AdoptedFrom, HasRefused, KeepsForeignTables, Represents, HasCrashStates, AdoptFault}
use Rattle.plant_text.specs.{Ends, CrashStatesOfRun, RunEnd}
use Rattle.desk_program.specs.Faults.{adopt_fault, outcome_of}
use Rattle.desk_program.specs.declared.fault.ProgramFault.{ProgramFault}

-- a store that has kept its specification until it was given back had kept it before
abbrev pub WasHonest : store.State → store.State → Type 0
WasHonest before after = HasCleanDisk after → HasCleanDisk before

-- The store had just been opened, and kept its specification until it was given back: then it was adopted, at a state of which this
-- holds, and the foreign tables are as they were when it was opened, also in whatever a stop leaves.
abbrev pub AdoptedIfHonest : store.State → store.State → States → Type 0
AdoptedIfHonest before after holds = HasCleanDisk after → IsNewlyOpened before → AdoptedFrom before holds × KeepsForeignTables before.now after

-- The store wasn't adopted, and was given back so. The fault is that of the adoption.
abbrev pub IsRefused : store.State → store.State → ProgramFault → Type 0
IsRefused before after fault = (f : AdoptFault) × (fault ≡ adopt_fault f) × HasRefused f before after

-- a task did nothing, since the store wasn't adopted
abbrev pub WasRefused : store.State → store.State → Result Bool ProgramFault → Type 0
WasRefused before after done = (fault : ProgramFault) × (done ≡ Err fault) × IsRefused before after fault

-- a run over these bytes ended so from the state s, and left the desk over this store, shut or not
abbrev pub EndsAt : State → List ℕ → Option (List ℕ) → Option (List ℕ) → Option (List ℕ) → store.State → Bool → RunEnd → Type 0
EndsAt s bytes left old new after shut end =
    Ends newest_schema s bytes left old new (Represents after shut) shut (HasCrashStates after) end
    × CrashStatesOfRun s bytes left (Represents after shut) (HasCrashStates after) end

-- a store was adopted, and the run over the bytes that were read ended from there
abbrev pub HasRun : store.State → store.State → Bool → Option (List ℕ) → Option (List ℕ) → Option (List ℕ) → Option (List ℕ) → RunEnd → Type 0
HasRun before after shut unread left old new end = (bytes : List ℕ) × Consumes unread left bytes
    × AdoptedIfHonest before after (λ s. EndsAt s bytes left old new after shut end)

-- The outcome of a run over a store: it was adopted, the run ended from there, and the outcome is that of its end; or it wasn't
-- adopted, and nothing was read or written.
abbrev pub RunGives : store.State → store.State → Option (List ℕ) → Option (List ℕ) → Option (List ℕ) → Option (List ℕ) → Result Bool ProgramFault → Type 0
RunGives before after unread left old new done =
    ((end : RunEnd) × (done ≡ outcome_of end) × ((shut : Bool) × HasRun before after shut unread left old new end))
    ⊎ (WasRefused before after done × (left ≡ unread) × (new ≡ old))
