-- Replicas: desks that are given the same commands in the same order, each command until it is acknowledged.
use Rattle.std.specs.Prelude.{◌≡◌, ◌⊎◌, ℕ, false, List, [], ◌∷◌, zip, Ok, IsSome, ⊤}
use Rattle.std.specs.List.{AllByRecursion}
use Rattle.sqlite.specs.Effect.{Database}
use Rattle.sqlite.specs.Held.{Held, state}
use Rattle.sqlite.specs.State.{HasCleanDisk}
use Rattle.sqlite_trees.specs.declared.store.Store.{Ghosts}
use Rattle.plant_base.specs.{State, Envelope, opening}
use Rattle.sql_tables.specs.{AreFree}
use Rattle.plant_tables.specs.{desk_table_defs}
use Rattle.plant_keeper.specs.{fold, replies}
use Rattle.plant_questions.specs.{Answer, Question, Reply}
use Rattle.plant_desk_store.specs.Adopting.{HoldsValidState}
use Rattle.plant_desk_store.specs.CallContracts.{HasAsked}
use Rattle.plant_desk_store.specs.Machines.{Attempt, acknowledged, in_flight}
use Rattle.plant_desk_store.specs.Executions.{IsOpened, StorePhase, desk, Execution}
use Rattle.plant_desk_store.specs.Headline.{IsSoAt}

-- the names of the desk's tables are free and the state is the opening one, or the tables of the state are there, which is valid
abbrev pub IsBeginningAt : State → Database → Type 0
IsBeginningAt s db = (AreFree desk_table_defs db.schema × (s ≡ opening)) ⊎ ((version : ℕ) × HoldsValidState version db s)

-- each command has a reference
abbrev pub AreReferenced : List Envelope → Type 0
AreReferenced commands = AllByRecursion (λ (e : Envelope). IsSome e.reference) commands

-- The attempts are at these commands, in their order: each is sent any number of times, and is acknowledged before the next one is sent.
abbrev pub AreSentInOrder : List Envelope → List Attempt → Type 0
AreSentInOrder [] [] = ⊤
AreSentInOrder [] (x ∷ more) = ⊥
AreSentInOrder (e ∷ commands) [] = ⊥
AreSentInOrder (e ∷ commands) (acknowledged d r ∷ more) = (d ≡ e) × (AreSentInOrder commands more ⊎ AreSentInOrder (e ∷ commands) more)
AreSentInOrder (e ∷ commands) (in_flight d ∷ more) = (d ≡ e) × AreSentInOrder (e ∷ commands) more

-- The same of commands with replies: each acknowledgement of a command is by its reply.
abbrev pub AreAnsweredInOrder : List (Envelope × Reply) → List Attempt → Type 0
AreAnsweredInOrder [] [] = ⊤
AreAnsweredInOrder [] (x ∷ more) = ⊥
AreAnsweredInOrder (e ∷ commands) [] = ⊥
AreAnsweredInOrder (e ∷ commands) (acknowledged d r ∷ more) = (d ≡ e.0) × (r ≡ e.1) × (AreAnsweredInOrder commands more ⊎ AreAnsweredInOrder (e ∷ commands) more)
AreAnsweredInOrder (e ∷ commands) (in_flight d ∷ more) = (d ≡ e.0) × AreAnsweredInOrder (e ∷ commands) more

-- A desk over this store was at the state first, and was given the commands since, whatever else it went through: calls, and stops at any
-- moment.
pub record IsReplica {S : Type 0} (g : Ghosts S) (s : State) (commands : List Envelope) (c : Held S) (phase : StorePhase) : Type 0 where
  pub first : Held S
  pub attempts : List Attempt
  pub newly : IsOpened (state g first)
  pub begins : IsBeginningAt s (state g first).now
  pub execution : Execution g first c phase attempts
  pub clean : HasCleanDisk (state g c)
  pub sent : AreSentInOrder commands attempts

-- Replicas of one beginning and the same commands are at the same state: the one to which the commands lead, each taken once, in order.
-- What is so of a store at a state is so of each of them at that one: its tables, its traces and stocks, its answers.
abbrev pub ReplicasAgree : {S T : Type 0} → Ghosts S → Ghosts T → Type 0
ReplicasAgree {S} {T} g h = (s : State) (commands : List Envelope) → AreReferenced commands → (c : Held S) (d : Held T) (phase other : StorePhase)
    → IsReplica g s commands c phase → IsReplica h s commands d other → IsSoAt g c (fold s commands) phase × IsSoAt h d (fold s commands) other

-- Each acknowledges each command by the reply that the definitions give where it comes to the command's turn, however often it is sent.
abbrev pub ReplicasReplyAlike : {S : Type 0} → Ghosts S → Type 0
ReplicasReplyAlike {S} g = (s : State) (commands : List Envelope) → AreReferenced commands → (c : Held S) (phase : StorePhase) (is : IsReplica g s commands c phase)
    → AreAnsweredInOrder (zip commands (replies s commands)) is.attempts

-- So two of them that aren't shut give one answer to each question.
abbrev pub ReplicasAnswerAlike : {S T : Type 0} → Ghosts S → Ghosts T → Type 0
ReplicasAnswerAlike {S} {T} g h = (s : State) (commands : List Envelope) → AreReferenced commands → (c after : Held S) (d later : Held T)
    → IsReplica g s commands c (desk false) → IsReplica h s commands d (desk false)
    → (q : Question) (a b : Answer) → HasAsked (state g c) (state g after) q (Ok a) → HasCleanDisk (state g after) → HasAsked (state h d) (state h later) q (Ok b) → HasCleanDisk (state h later)
    → a ≡ b
