-- The outcome of serving connections, and how it ends.
use Rattle.std.specs.Prelude.{◌≡◌, ℕ, ◌≤◌, ◌<◌, List, [], ◌∷◌, length, Bool, true, false, Option, Some, None, Result, Ok, Err}
use Rattle.sqlite.specs.Effect.{Database}
use Rattle.sqlite.specs.Held.{state}
use Rattle.sqlite.specs.State.{HasCleanDisk}
use Rattle.sqlite_trees.specs.declared.store.Store.{Ghosts}
use Rattle.plant_base.specs.{State, newest_schema}
use Rattle.plant_keeper.specs.{States, IsSameDesk}
use Rattle.plant_desk_store.specs.{Represents, HasCrashStates, HasForeignTables, Desk}
use Rattle.plant_text.specs.{RepresentsDurably, RepresentsEither, after}
use Rattle.plant_http_requests.specs.{ConditionalTask, Now, TaskOf, Terms}
use Rattle.plant_http.specs.{entry_of, ServeFault, Served}
use Rattle.plant_http.specs.declared.serve.Served.TheVariants.{Answered, Nothing}
use Rattle.desk_server.specs.declared.fault.ServingFault.{ServingFault}
use Rattle.desk_server.specs.declared.fault.ServingFault.TheVariants as fault

-- the status by which a request was answered, whole
abbrev pub status_of : Result Served ServeFault → Option ℕ
status_of (Ok (Answered status)) = Some status
status_of (Ok Nothing) = None
status_of (Err f) = None

-- an input of a connection, what was known as it was read, and the task that it asks for then by these terms
pub record Asked (terms : Terms) : Type 0 where
  pub now : Now
  pub input : List ℕ
  pub task : ConditionalTask
  pub asks : TaskOf (record terms { now = now }) input (Some task)

-- where the tasks lead, each done in the state after those before it
abbrev pub after_tasks : {terms : Terms} → State → List (Asked terms) → State
after_tasks s [] = s
after_tasks s (a ∷ tasks) = after_tasks (after s (entry_of s a.task)) tasks

-- A keeper that represented s has served at most so many connections, as these terms say. It represents where the tasks lead that it has done, each
-- once and in their order, and a stop leaves that state and no other; tasks for which a fault was answered are not among them.
-- Where it is shut, a fault of its store came at a further task: a stop leaves the state before it or the state after it.
abbrev pub HasServed : Terms → ℕ → State → States → Bool → (States → Type 0) → Type 0
HasServed terms most s represents false crash_states = (tasks : List (Asked terms)) × (length tasks ≤ most) × RepresentsDurably represents crash_states (after_tasks s tasks)
HasServed terms most s represents true crash_states =
    (tasks : List (Asked terms)) × (last : Asked terms) × (length tasks < most) × RepresentsEither represents crash_states (after_tasks s tasks) (entry_of (after_tasks s tasks) last.task)

-- the same of a desk over a store that has kept its specification, of each state that it represented
abbrev pub ServesAtMost : {S : Type 0} (g : Ghosts S) → Terms → ℕ → Desk S g → Desk S g → Type 0
ServesAtMost {S} g terms most old new =
    HasCleanDisk (state g new.connection) → (s : State) → Represents (state g old.connection) old.is_shut s
    → HasServed terms most s (Represents (state g new.connection) new.is_shut) new.is_shut (λ states. HasCrashStates (state g new.connection) states)

-- the desk is one and the same: its store has kept its specification, and the foreign tables are as they were
abbrev pub IsSameStore : {S : Type 0} (g : Ghosts S) → Desk S g → Desk S g → Type 0
IsSameStore {S} g old new =
    IsSameDesk (λ (d : Desk S g). HasCleanDisk (state g d.connection)) (λ _. newest_schema)
    (λ (d : Desk S g) (before : Database). HasForeignTables (state g d.connection) d.is_shut before) old new

-- The end of the connections: all were served, or no further one could be taken, or memory was refused before the first,
-- by a desk that is open; or a fault of the store has shut it.
abbrev pub EndsServing : Bool → Result (Unit {0}) ServingFault → Type 0
EndsServing shut (Ok served) = shut ≡ false
EndsServing shut (Err fault.Store) = shut ≡ true
EndsServing shut (Err fault.Net) = shut ≡ false
EndsServing shut (Err fault.Memory) = shut ≡ false
