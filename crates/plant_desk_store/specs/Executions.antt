-- An execution: the openings of a desk's store, the calls of a desk over it, and its stops, in whichever order they came.
use Rattle.std.specs.Prelude.{◌≡◌, ◌⊎◌, ℕ, Bool, false, List, [], ◌∷◌, ◌++◌, length, map, zip, slice_get, Option, Some, Result, Ok, Err}
use Rattle.sqlite.specs.Effect.{Database}
use Rattle.sqlite.specs.Held.{Held, state}
use Rattle.sqlite.specs.State as store
use Rattle.sqlite.specs.State.{HasCleanDisk, IsLive}
use Rattle.sqlite_trees.specs.declared.store.Store.{Ghosts}
use Rattle.plant_base.specs.{State, Envelope}
use Rattle.plant_rules.specs.{step}
use Rattle.sql_tables.specs.{AreFree}
use Rattle.sql_queries.specs.{IsNewlyOpened}
use Rattle.plant_tables.specs.{desk_table_defs}
use Rattle.plant_check_rules.specs.{Rule}
use Rattle.plant_rules.specs.{Checked}
use Rattle.plant_keeper.specs.{reply}
use Rattle.plant_questions.specs.{Answer, DeskFault, Question, Reply}
use Rattle.plant_questions.specs.declared.reply.DeskFault.TheVariants.{Store, Memory, Shut}
use Rattle.plant_desk_store.specs.CallContracts.{HasAdopted, HasRefused, HasExecuted, HasCheckedCommand, HasAsked, HasRun, HasVerified, HasIndexed}
use Rattle.plant_desk_store.specs.DeskLaws.{IsAdoptable}
use Rattle.plant_desk_store.specs.Machines.{Attempt, acknowledged, in_flight}
use Rattle.plant_desk_store.specs.declared.adopting.AdoptFault.{AdoptFault}

-- ---- commands that were sent

-- where commands may have led: each that was acknowledged is taken, and its reply is the definitions' at the state that it was
-- taken at; each that was under way is taken or isn't
abbrev pub PossibleOutcome : State → List Attempt → State → Type 0
PossibleOutcome s [] u = u ≡ s
PossibleOutcome s (acknowledged e r ∷ more) u = (r ≡ reply s e) × PossibleOutcome (step s e) more u
PossibleOutcome s (in_flight e ∷ more) u = PossibleOutcome s more u ⊎ PossibleOutcome (step s e) more u

-- a command that came to this; where memory was refused it wasn't begun
abbrev pub attempt_as : Envelope → Result Reply DeskFault → List Attempt
attempt_as e (Ok r) = acknowledged e r ∷ []
attempt_as e (Err Store) = in_flight e ∷ []
attempt_as e (Err Memory) = []
attempt_as e (Err Shut) = []

-- the command at which a list was cut off by the store
abbrev pub cut_off : Option DeskFault → Option Envelope → List Attempt
cut_off (Some Store) (Some e) = in_flight e ∷ []
cut_off _ _ = []

-- a list of commands, of which the first were answered by these replies, before it came to this end
abbrev pub attempts_of : List Envelope → List Reply → Option DeskFault → List Attempt
attempts_of list answered end = map (λ p. acknowledged p.0 p.1) (zip list answered) ++ cut_off end (slice_get list (length answered))

-- ---- the store

-- a store as an opening gives it, over a sound database
abbrev pub IsOpened : store.State → Type 0
IsOpened c = IsNewlyOpened c × IsLive c

-- what an execution begins with: the names of the desk's tables are free; or the tables of a valid state are there, of any version that
-- can be read, and the names are free that later ones add
abbrev pub IsBeginning : Database → Type 0
IsBeginning db = AreFree desk_table_defs db.schema ⊎ ((version : ℕ) × ((s : State) × IsAdoptable version db s))

-- where a store is: it was opened; a desk is over it, which is shut or not; or an adoption gave it back
pub data StorePhase : Type 0 where
  opened : StorePhase
  desk : Bool → StorePhase
  refused : StorePhase

-- What a store has been through since its first opening, and the commands that were sent meanwhile. A stop may come at any
-- moment: one within a call is a store that fails from there on, so that the call ends with Store. A store that is given back, by a
-- desk that is closed or by an adoption, is adopted again where it is as an opening gives it.
pub data Execution {S : Type 0} (g : Ghosts S) (first : Held S) : Held S → StorePhase → List Attempt → Type 0 where
  begun : IsBeginning (state g first).now → Execution g first first opened []
  found : (new : Held S) → HasAdopted (state g first) (state g new) → Execution g first new (desk false) []
  adopted : (old new : Held S) (attempts : List Attempt) → Execution g first old opened attempts → HasAdopted (state g old) (state g new) → Execution g first new (desk false) attempts
  unadopted : (old new : Held S) (attempts : List Attempt) (f : AdoptFault) → Execution g first old opened attempts → HasRefused f (state g old) (state g new) → Execution g first new refused attempts
  executed : (old new : Held S) (shut : Bool) (attempts : List Attempt) (e : Envelope) (r : Result Reply DeskFault) → Execution g first old (desk false) attempts → HasExecuted (state g old) (state g new) shut e r → Execution g first new (desk shut) (attempts ++ attempt_as e r)
  ran : (old new : Held S) (shut : Bool) (attempts : List Attempt) (list : List Envelope) (answered : List Reply) (end : Option DeskFault) → Execution g first old (desk false) attempts → HasRun (state g old) (state g new) shut list answered end → Execution g first new (desk shut) (attempts ++ attempts_of list answered end)
  command_checked : (old new : Held S) (attempts : List Attempt) (e : Envelope) (r : Result Checked DeskFault) → Execution g first old (desk false) attempts → HasCheckedCommand (state g old) (state g new) e r → Execution g first new (desk false) attempts
  asked : (old new : Held S) (attempts : List Attempt) (q : Question) (r : Result Answer DeskFault) → Execution g first old (desk false) attempts → HasAsked (state g old) (state g new) q r → Execution g first new (desk false) attempts
  verified : (old new : Held S) (attempts : List Attempt) (r : Result (Option Rule) DeskFault) → Execution g first old (desk false) attempts → HasVerified (state g old) (state g new) r → Execution g first new (desk false) attempts
  indexed : (old new : Held S) (attempts : List Attempt) (r : Result (Unit {0}) DeskFault) → Execution g first old (desk false) attempts → HasIndexed (state g old) (state g new) r → Execution g first new (desk false) attempts
  stopped : (old new : Held S) (phase : StorePhase) (attempts : List Attempt) → Execution g first old phase attempts → HasCleanDisk (state g old) → (state g old).may_leave (state g new).now.trees → IsOpened (state g new) → Execution g first new opened attempts
  given_back : (old : Held S) (phase : StorePhase) (attempts : List Attempt) → Execution g first old phase attempts → IsOpened (state g old) → Execution g first old opened attempts
