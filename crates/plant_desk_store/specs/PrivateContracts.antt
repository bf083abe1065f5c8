-- The contracts of the private functions that the calls of a desk are made of, one relation a function.
use Rattle.std.specs.Prelude.{◌≡◌, ◌≢◌, ◌⊎◌, ◌+◌, ◌-◌, ◌≤◌, ℕ, pos, true, false, List, Option, None, Result, IfOk, IfErr, OnOk, MatchResult, IsTrue}
use Rattle.sqlite.specs.Tree.{Trees}
use Rattle.sqlite.specs.Effect.{Database, IsDatabase}
use Rattle.sqlite.specs.State as store
use Rattle.sqlite.specs.State.{HasCleanDisk, IsUnchanged, Survives}
use Rattle.plant_base.specs.{State, opening, newest_schema, greatest_seq, Envelope}
use Rattle.plant_view.specs.{PutsOneBatch, tables_of, changed_all, RowChange}
use Rattle.plant_invariant.specs.StateInvariant.{StateInvariant}
use Rattle.sql_tables.specs.{Keeps, AreFree, IsSettled}
use Rattle.plant_tables.specs.{desk_table_defs, AreFresh, AddsMissing, AreAllTaken}
use Rattle.plant_tables.specs.{IsKnown, IsVersion, rows_in, rows_listed, DeskRows}
use Rattle.plant_migrate.specs.{edges_from, IsMigratedBy}
use Rattle.plant_check_rules.specs.{Rule}
use Rattle.plant_answers.specs.{answer}
use Rattle.plant_rules.specs.{checked, Checked}
use Rattle.plant_keeper.specs.{writes_nothing}
use Rattle.plant_questions.specs.{Answer, DeskFault, Question, Reply}
use Rattle.plant_questions.specs.declared.reply.Reply.TheVariants.{Accepted}
use Rattle.plant_questions.specs.declared.reply.DeskFault.TheVariants.{Store, Shut}
use Rattle.plant_desk_store.specs.Adopting.{IsNewlyOpened, HoldsValidState, IsRisingAt, IsMigrated, ShowsUnchanged, NamesFirst, AreMade}
use Rattle.plant_desk_store.specs.Lookups.{IsDecidedAt, IsRepeat}
use Rattle.plant_desk_store.specs.DeskStates.{ShowsState, HasCrashStates, IsDurablyAt, Executed, KeepsForeignTables}
use Rattle.plant_desk_store.specs.Checks.{IsTested}
use Rattle.plant_desk_store.specs.declared.adopting.AdoptFault.{AdoptFault}
use Rattle.plant_desk_store.specs.declared.adopting.AdoptFault.TheVariants as fault
use Rattle.plant_desk_store.specs.declared.lookups.Decided.{Decided}

-- ---- calls that only read

-- The store was read and nothing else.
pub record OnlyReads (old new : store.State) : Type 0 where
  pub rests : old.in_transaction ≡ false → new.in_transaction ≡ false
  pub kept : HasCleanDisk new → Keeps old new
  pub crash : Survives old new (λ _. ⊥)

-- Lookups came to what is right at the state that was shown, and to what is so of each outcome.
pub record HasLookedUp {A : Type 0} (is_right : State → A → Type 0) (is_formed : A → Type 0) (old new : store.State) (r : Result A DeskFault) : Type 0 where
  pub reads : OnlyReads old new
  pub right : HasCleanDisk new → (s : State) → ShowsState old s → IfOk r (is_right s)
  pub formed : IfOk r is_formed
  pub is_live : HasCleanDisk new → OnOk r (IsTrue new.is_open)
  pub unshut : IfErr r (λ f. f ≢ Shut)

-- A command was decided by lookups.
pub record HasDecided (old new : store.State) (e : Envelope) (r : Result Decided DeskFault) : Type 0 where
  pub reads : OnlyReads old new
  pub decided : HasCleanDisk new → (s : State) → ShowsState old s → IfOk r (IsDecidedAt s e)
  pub one_batch : IfOk r (λ d. PutsOneBatch d.decision)
  pub small : IfOk r (λ d. d.seq ≤ greatest_seq)
  pub is_live : HasCleanDisk new → OnOk r (IsTrue new.is_open)
  pub unshut : IfErr r (λ f. f ≢ Shut)

-- What would become of a command was said by lookups.
pub record HasLookedUpCheck (old new : store.State) (e : Envelope) (r : Result Checked DeskFault) : Type 0 where
  pub reads : OnlyReads old new
  pub checks : HasCleanDisk new → (s : State) → ShowsState old s → IfOk r (λ c. c ≡ checked s e)
  pub unshut : IfErr r (λ f. f ≢ Shut)

-- A question was answered by lookups.
pub record HasAnswered (old new : store.State) (q : Question) (r : Result Answer DeskFault) : Type 0 where
  pub reads : OnlyReads old new
  pub answers : HasCleanDisk new → (s : State) → ShowsState old s → IfOk r (λ a. a ≡ answer newest_schema s q)
  pub unshut : IfErr r (λ f. f ≢ Shut)

-- All tables were tested.
pub record HasTested (old new : store.State) (r : Result (Option Rule) DeskFault) : Type 0 where
  pub reads : OnlyReads old new
  pub tested : HasCleanDisk new → IfOk r (IsTested old.now)
  pub unbroken : HasCleanDisk new → (s : State) → ShowsState old s → IfOk r (λ broken. broken ≡ None)
  pub unshut : IfErr r (λ f. f ≢ Shut)

-- ---- commands

-- the foreign tables that were as in some database still are
abbrev pub PreservesForeignTables : store.State → store.State → Type 0
PreservesForeignTables old new = (before : Database) → KeepsForeignTables before old → KeepsForeignTables before new

-- The changes lead from the tables of one state to those of another, which is valid, each row under a key of its own.
pub record PossibleOutcomes (changes : List RowChange) (s next : State) : Type 0 where
  pub valid : StateInvariant next
  pub leads : changed_all changes (tables_of newest_schema s) ≡ tables_of newest_schema next
  pub fresh : AreFresh changes (tables_of newest_schema s)

-- what a commit that leads from s to the next state came to
abbrev pub IsCommitted : State → State → store.State → Result Reply DeskFault → Type 0
IsCommitted s next new r = MatchResult r (λ _. IsDurablyAt new next) (λ _. ShowsState new s × HasCrashStates new (λ u. (u ≡ s) ⊎ (u ≡ next)))

-- The changes of a command, of which so many were accepted before it, were committed or not.
pub record HasCommitted (seq : ℕ) (changes : List RowChange) (old new : store.State) (r : Result Reply DeskFault) : Type 0 where
  pub rests : new.in_transaction ≡ false
  pub clean : HasCleanDisk new → HasCleanDisk old
  pub answered : MatchResult r (λ x. x ≡ Accepted (seq + 1)) (λ f. f ≡ Store)
  pub committed : HasCleanDisk new → (s next : State) → IsDurablyAt old s → IsTrue old.is_open → PossibleOutcomes changes s next → IsCommitted s next new r
  pub others : HasCleanDisk new → (s next : State) → IsDurablyAt old s → IsTrue old.is_open → PossibleOutcomes changes s next → PreservesForeignTables old new

-- What was decided of a command was done.
pub record HasWritten (d : Decided) (e : Envelope) (old new : store.State) (r : Result Reply DeskFault) : Type 0 where
  pub rests : new.in_transaction ≡ false
  pub clean : HasCleanDisk new → HasCleanDisk old
  pub executed : HasCleanDisk new → (s : State) → IsDurablyAt old s → IsTrue old.is_open → IsDecidedAt s e d → Executed s new e r
  pub others : HasCleanDisk new → (s : State) → IsDurablyAt old s → IsTrue old.is_open → IsDecidedAt s e d → PreservesForeignTables old new
  -- Store comes of the commit of a command that is accepted
  pub reported : IfErr r (λ f. f ≡ Store)

-- A command was executed over the store.
pub record HasStepped (e : Envelope) (old new : store.State) (r : Result Reply DeskFault) : Type 0 where
  pub rests : new.in_transaction ≡ false
  pub clean : HasCleanDisk new → HasCleanDisk old
  pub executed : HasCleanDisk new → (s : State) → IsDurablyAt old s → Executed s new e r
  pub others : HasCleanDisk new → (s : State) → IsDurablyAt old s → PreservesForeignTables old new
  pub unshut : IfErr r (λ f. f ≢ Shut)
  -- where nothing was to be written, and for a command that was accepted before, a stop leaves what it left
  pub no_crash_state_added : writes_nothing r ≡ true → Survives old new (λ _. ⊥)
  pub repeated : HasCleanDisk new → (s : State) → ShowsState old s → IsRepeat s e → Survives old new (λ _. ⊥)

-- ---- indexes

-- The indexes were made that the tables lacked, or weren't.
pub record HasMended (old new : store.State) (r : Result (Unit {0}) DeskFault) : Type 0 where
  pub rests : new.in_transaction ≡ false
  pub clean : HasCleanDisk new → HasCleanDisk old
  pub unshut : IfErr r (λ f. f ≢ Shut)
  pub represents : HasCleanDisk new → (s : State) → IsDurablyAt old s → IsDurablyAt new s
  pub made : HasCleanDisk new → (s : State) → IsDurablyAt old s → OnOk r (AddsMissing old.now new.now)
  pub others : HasCleanDisk new → (s : State) → IsDurablyAt old s → PreservesForeignTables old new
  pub no_crash_state_added : HasCleanDisk new → AreAllTaken old.now.schema → (trees : Trees) → new.may_leave trees → old.may_leave trees

-- ---- adoption

-- The desk's tables were made, with the opening state, or weren't.
pub record HasMade (old new : store.State) (r : Result (Unit {0}) AdoptFault) : Type 0 where
  pub rests : new.in_transaction ≡ false
  pub made : HasCleanDisk new → IsSettled old → IsDatabase old.now → AreFree desk_table_defs old.now.schema → MatchResult r (λ _. IsDurablyAt new opening × KeepsForeignTables old.now new) (λ _. Keeps old new)
  pub reported : IfErr r (λ f. f ≡ fault.Store)
  pub crash : Survives old new (AreMade old.now)

-- the rows of the tables of the state in this version
abbrev pub AreRowsOf : ℕ → State → DeskRows → Type 0
AreRowsOf version s rows = rows_listed rows ≡ rows_in (tables_of version s)

-- The tables of a version were read and tested.
pub record HasChecked (version : ℕ) (old new : store.State) (r : Result DeskRows AdoptFault) : Type 0 where
  pub reads : OnlyReads old new
  pub valid : HasCleanDisk new → IsNewlyOpened old → IsKnown version → IfOk r (λ rows. (s : State) × HoldsValidState version old.now s × AreRowsOf version s rows)
  pub reported : HasCleanDisk new → (s : State) → HoldsValidState version old.now s → IfOk r (AreRowsOf version s)
  pub numbered : OnOk r (1 ≤ version)
  pub unchanged : HasCleanDisk new → OnOk r (IsUnchanged old new)
  pub named : HasCleanDisk new → IsVersion old.now (pos version) → IfErr r (NamesFirst old.now)

-- Valid tables of an older version, of which these rows were read, were migrated to the newest, or in part.
pub record HasMigrated (version : ℕ) (rows : DeskRows) (old new : store.State) (r : Result (Unit {0}) AdoptFault) : Type 0 where
  pub rests : new.in_transaction ≡ false
  pub migrated : HasCleanDisk new → IsSettled old → (s : State) → HoldsValidState version old.now s → AreRowsOf version s rows
      → MatchResult r (λ _. IsDurablyAt new s × KeepsForeignTables old.now new) (λ f. IsRisingAt version new s × ShowsUnchanged f old new)
  pub reported : IfErr r (λ f. (f ≡ fault.Store) ⊎ (f ≡ fault.Memory))
  pub unmade : IfErr r (λ f. f ≢ fault.Store → Survives old new (λ _. ⊥))
  pub crash : Survives old new (IsMigratedBy version (newest_schema - version) rows.meta.position (edges_from version rows.movements.items) old)

-- The tables of a version, which are there, were tested, and migrated where they are valid and older than the newest.
pub record HasTaken (version : ℕ) (old new : store.State) (r : Result (Unit {0}) AdoptFault) : Type 0 where
  pub rests : new.in_transaction ≡ false
  pub valid : HasCleanDisk new → IsNewlyOpened old → IsKnown version
      → MatchResult r (λ _. (s : State) × HoldsValidState version old.now s × IsDurablyAt new s × KeepsForeignTables old.now new) (λ f. ShowsUnchanged f old new)
  pub again : HasCleanDisk new → IsNewlyOpened old → (s : State) → HoldsValidState version old.now s → MatchResult r (λ _. IsDurablyAt new s) (λ _. IsRisingAt version new s)
  pub named : HasCleanDisk new → IsVersion old.now (pos version) → IfErr r (NamesFirst old.now)
  pub unmade : IfErr r (λ f. f ≢ fault.Store → Survives old new (λ _. ⊥))
  pub newest : version ≡ newest_schema → Survives old new (λ _. ⊥)
  pub crash : Survives old new (λ trees. IsNewlyOpened old → IsKnown version → IsMigrated old.now trees)
