-- The contracts of the calls of a desk over its store, one relation a call.
use Rattle.std.specs.Prelude.{◌≡◌, ◌≢◌, ◌≤◌, Bool, true, false, List, length, take, Option, Some, None, Result, IfOk, IfErr, OnOk}
use Rattle.sqlite.specs.Tree.{Trees}
use Rattle.sqlite.specs.Effect.{Database}
use Rattle.sqlite.specs.State as store
use Rattle.sqlite.specs.State.{HasCleanDisk, Survives}
use Rattle.plant_base.specs.{State, newest_schema, Envelope}
use Rattle.plant_trace.specs.{IsAcyclic}
use Rattle.plant_view.specs.{IsConserved, IsBalanced, edges_of}
use Rattle.plant_tables.specs.{AddsMissing, AreAllTaken}
use Rattle.plant_check_rules.specs.{Rule}
use Rattle.plant_rules.specs.{Checked}
use Rattle.plant_keeper.specs.{Executes, Checks, Asks, shuts, writes_nothing, fold}
use Rattle.plant_questions.specs.{Answer, DeskFault, Question, Reply}
use Rattle.plant_questions.specs.declared.reply.DeskFault.TheVariants.{Shut}
use Rattle.plant_desk_store.specs.Adopting.{IsNewlyOpened, AdoptedFrom, KeepsValidState, ValidStateSurvives, ShowsUnchanged, IsRefusedBy, IsUnmigrated, Adopts}
use Rattle.plant_desk_store.specs.Lookups.{IsRepeat}
use Rattle.plant_desk_store.specs.Runs.{Ran}
use Rattle.plant_desk_store.specs.DeskStates.{IsDurablyAt, KeepsForeignTables, Represents, HasCrashStates, HasForeignTables}
use Rattle.plant_desk_store.specs.Checks.{IsTested}
use Rattle.plant_desk_store.specs.declared.adopting.AdoptFault.{AdoptFault}
use Rattle.plant_desk_store.specs.declared.adopting.AdoptFault.TheVariants as fault

-- ---- adoption

-- The store was adopted.
pub record HasAdopted (old new : store.State) : Type 0 where
  pub rests : new.in_transaction ≡ false
  pub adopted : HasCleanDisk new → IsNewlyOpened old → AdoptedFrom old (IsDurablyAt new)
  -- over the tables of a valid state the desk represents this state, and a stop leaves that state alone
  pub again : KeepsValidState old new
  -- foreign tables are as they were
  pub others : HasCleanDisk new → IsNewlyOpened old → KeepsForeignTables old.now new
  -- a stop leaves what it left before, and only that where there were tables that aren't migrated
  pub no_crash_state_added : IsUnmigrated old.now → Survives old new (λ _. ⊥)
  pub crash : Survives old new (Adopts old)

-- The store wasn't adopted, for this fault.
pub record HasRefused (f : AdoptFault) (old new : store.State) : Type 0 where
  -- the fault has its cause, and no transaction is open
  pub refused : HasCleanDisk new → IsRefusedBy old.now f
  pub rests : new.in_transaction ≡ false
  -- the store, while it is open, shows what it showed, or valid tables that were migrated in part
  pub shows : HasCleanDisk new → IsNewlyOpened old → ShowsUnchanged f old new
  -- a stop leaves the tables of a valid state as they were, or of a later schema
  pub unchanged : ValidStateSurvives old new
  -- it leaves what it left before, and only that where there were tables that aren't migrated, and at each fault but Store
  pub no_crash_state_added : IsUnmigrated old.now → Survives old new (λ _. ⊥)
  pub unmade : f ≢ fault.Store → Survives old new (λ _. ⊥)
  pub crash : Survives old new (Adopts old)
  pub something : HasCleanDisk new → ∥ ((trees : Trees) × new.may_leave trees) ∥₁

-- ---- commands and questions to a desk that isn't shut

-- A command was executed, which came to this.
pub record HasExecuted (old new : store.State) (shut : Bool) (e : Envelope) (r : Result Reply DeskFault) : Type 0 where
  pub honest : HasCleanDisk new → HasCleanDisk old
  pub executes : HasCleanDisk new → (s : State) → Represents old false s → Executes s (Represents new shut) (HasCrashStates new) e r
  pub is_shut : shut ≡ shuts r
  -- a stop leaves what it left before, where the command was refused or memory was, and where it was accepted before: nothing is
  -- written for it then
  pub no_crash_state_added : writes_nothing r ≡ true → Survives old new (λ _. ⊥)
  pub repeated : HasCleanDisk new → (s : State) → Represents old false s → IsRepeat s e → Survives old new (λ _. ⊥)

-- A command was checked, which came to this.
pub record HasCheckedCommand (old new : store.State) (e : Envelope) (r : Result Checked DeskFault) : Type 0 where
  pub honest : HasCleanDisk new → HasCleanDisk old
  pub checks : HasCleanDisk new → (s : State) → Represents old false s → Checks s (Represents new false) e r
  -- a stop leaves what it left before
  pub no_crash_state_added : Survives old new (λ _. ⊥)

-- A question was asked, which came to this.
pub record HasAsked (old new : store.State) (q : Question) (r : Result Answer DeskFault) : Type 0 where
  pub honest : HasCleanDisk new → HasCleanDisk old
  pub asks : HasCleanDisk new → (s : State) → Represents old false s → Asks newest_schema s (Represents new false) q r

-- Nothing is lost and nothing made, of each definition and in each lot, and nothing was made from itself.
pub record IsAccounted (s : State) : Type 0 where
  pub conserved : IsConserved s
  pub balanced : IsBalanced s
  pub acyclic : IsAcyclic (edges_of s)

-- Commands were executed in order: so many were answered, and then this came.
pub record HasRun (old new : store.State) (shut : Bool) (list : List Envelope) (answered : List Reply) (end : Option DeskFault) : Type 0 where
  pub honest : HasCleanDisk new → HasCleanDisk old
  pub within : length answered ≤ length list
  pub is_live : end ≢ Some Shut
  pub ran : HasCleanDisk new → (s : State) → Represents old false s → Ran s list answered end (Represents new shut) (HasCrashStates new) shut
  pub accounted : HasCleanDisk new → (s : State) → Represents old false s → IsAccounted (fold s (take (length answered) list))
  -- foreign tables are as they were, also in what a stop leaves
  pub others : HasCleanDisk new → (before : Database) → HasForeignTables old false before → HasForeignTables new shut before

-- The indexes were made that the tables lacked, or weren't for this fault; the desk represents what it represented, and so does what a
-- stop leaves.
pub record HasIndexed (old new : store.State) (r : Result (Unit {0}) DeskFault) : Type 0 where
  pub honest : HasCleanDisk new → HasCleanDisk old
  pub is_live : IfErr r (λ f. f ≢ Shut)
  pub represents : HasCleanDisk new → (s : State) → Represents old false s → Represents new false s
  -- each index whose name was free is there
  pub made : HasCleanDisk new → (s : State) → Represents old false s → OnOk r (AddsMissing old.now new.now)
  -- foreign tables are as they were, also in what a stop leaves
  pub others : HasCleanDisk new → (before : Database) → HasForeignTables old false before → HasForeignTables new false before
  -- where no name is free, a stop leaves what it left before
  pub no_crash_state_added : HasCleanDisk new → AreAllTaken old.now.schema → (trees : Trees) → new.may_leave trees → old.may_leave trees

-- All tables were tested: the first rule that they break is returned, and there is none where the desk represented a state.
pub record HasVerified (old new : store.State) (r : Result (Option Rule) DeskFault) : Type 0 where
  pub honest : HasCleanDisk new → HasCleanDisk old
  pub is_live : IfErr r (λ f. f ≢ Shut)
  pub tested : HasCleanDisk new → IfOk r (IsTested old.now)
  pub unbroken : HasCleanDisk new → (s : State) → Represents old false s → IfOk r (λ broken. broken ≡ None) × Represents new false s
  -- a stop leaves what it left before
  pub crash : Survives old new (λ _. ⊥)
