-- What a store represents after what it has been through.
use Rattle.std.proofs.Common.{◌≡◌, ◌∙◌, ℕ, pos, Bool, true, false, List, [], ◌∷◌, ◌++◌, length, map, take, Option, Some, None, Result, Ok, Err, refl, sym, ap, subst, inl, inr, arith, ◌⊎◌, slice_get, zip, append_assoc, All}
use Rattle.std.proofs.Math.Logic.{∥∥₁_map}
use Rattle.sqlite.specs.Tree.{Trees}
use Rattle.sqlite.specs.Schema.{Schema}
use Rattle.sqlite.specs.Effect.{Database, IsDatabase}
use Rattle.sqlite.specs.Held.{Held, state}
use Rattle.sqlite.specs.State as store
use Rattle.sqlite.specs.State.{HasCleanDisk, Survives}
use Rattle.sqlite_trees.specs.declared.store.Store.{Ghosts}
use Rattle.plant_base.specs.{State, opening, newest_schema, Envelope}
use Rattle.plant_rules.specs.{step}
use Rattle.plant_invariant.proofs.StepPreservesInvariant.{opening_is_valid}
use Rattle.sql_tables.specs.{AreFree, IsFree}
use Rattle.plant_tables.specs.{desk_table_defs, later_table_defs}
use Rattle.plant_rules.specs.{Checked}
use Rattle.plant_keeper.specs.{States, Executes, Checks, Asks, shuts, reply, fold, replies}
use Rattle.plant_questions.specs.{Answer, DeskFault, Question, Reply}
use Rattle.plant_questions.specs.declared.reply.DeskFault.TheVariants.{Store, Memory, Shut}
use Rattle.plant_desk_store.specs.{AdoptedFrom, Adopts, IsAdopted, IsBeginningAt, IsRefusedBy, HasAdopted, HasRefused, IsAtState, IsFoundAt, IsKeptAt, IsSoAt, HasOpenableCrashState, IsAdoptable, IsOpenedAfter, Attempt, acknowledged, in_flight, PossibleOutcome, attempt_as, cut_off, StorePhase, opened, desk, refused, Execution, begun, found, adopted, unadopted, executed, ran, command_checked, asked, verified, indexed, stopped, given_back, RunEnds, IsDurablyAt, Represents, HasCrashStates}
use Rattle.plant_desk_store.specs.Headline.{Headline}
use Rattle.plant_desk_store.specs.Executions.{IsBeginning, IsOpened}
use Rattle.plant_desk_store.specs.declared.adopting.AdoptFault.{AdoptFault}
use Rattle.plant_desk_store.specs.declared.adopting.AdoptFault.TheVariants as fault
use Rattle.plant_tables.proofs.OneVersion.{each_free, free_reports_nothing}
use Rattle.plant_desk_store.proofs.ValidTablesAreAdopted.{not_free, one_reported, unrefused, version_held}
use Rattle.plant_desk_store.proofs.AnswersFollowMovements.{answered}
use Rattle.plant_desk_store.proofs.RunsPreserveInvariant.{accounted_valid}
use Rattle.plant_desk_store.proofs.RunsAreOutcomes.{outcome_run}
use Rattle.plant_desk_store.proofs.CrashStatesReopen.{same_database, none_later, reopened, adopted_again, opening_adopted}

-- ---- where commands may have led

leads_on : (s t u : State) (a b : List Attempt) → PossibleOutcome s a t → PossibleOutcome t b u → PossibleOutcome s (a ++ b) u
leads_on s t u [] b p q = subst (λ (x : State). PossibleOutcome x b u) p q
leads_on s t u (acknowledged e r ∷ a) b p q = (p.0, leads_on (step s e) t u a b p.1 q)
leads_on s t u (in_flight e ∷ a) b (inl p) q = inl (leads_on s t u a b p q)
leads_on s t u (in_flight e ∷ a) b (inr p) q = inr (leads_on (step s e) t u a b p q)

-- the commands that were answered, each with its reply
abbrev acknowledgements : List Envelope → List Reply → List Attempt
acknowledgements list answered = map (λ p. acknowledged p.0 p.1) (zip list answered)

all_taken : (s : State) (list : List Envelope) (answered : List Reply) → answered ≡ replies s (take (length answered) list) → PossibleOutcome s (acknowledgements list answered) (fold s (take (length answered) list))
all_taken s [] [] reported = refl
all_taken s [] (r ∷ answered) reported = absurd (cc)
all_taken s (e ∷ list) [] reported = refl
all_taken s (e ∷ list) (r ∷ answered) reported =
    let first : r ≡ reply s e = cc in
    let others : answered ≡ replies (step s e) (take (length answered) list) = cc in
    (first, all_taken (step s e) list answered others)

-- ---- a database that can be adopted

-- nothing of the desk, or the tables of a state to which the commands may have led
abbrev IsReady : State → List Attempt → Database → Type 0
IsReady s attempts db = (AreFree desk_table_defs db.schema × PossibleOutcome s attempts opening) ⊎ ((u : State) × PossibleOutcome s attempts u × ((version : ℕ) × IsAdoptable version db u))

-- whatever database is opened over what a stop leaves
abbrev CrashStatesAreReady : State → List Attempt → store.State → Type 0
CrashStatesAreReady s attempts c = (trees : Trees) → c.may_leave trees → (db : Database) → db.trees ≡ trees → IsDatabase db → IsReady s attempts db

abbrev MayRepresent : State → List Attempt → Type 0
MayRepresent s attempts = (u : State) × PossibleOutcome s attempts u

-- ---- what is so in each phase

abbrev Reached : State → List Attempt → store.State → StorePhase → Type 0
Reached s attempts c opened = IsOpened c × IsReady s attempts c.now
Reached s attempts c (desk false) = (u : State) × PossibleOutcome s attempts u × IsDurablyAt c u
Reached s attempts c (desk true) = MayRepresent s attempts × CrashStatesAreReady s attempts c × HasOpenableCrashState c
Reached s attempts c refused = MayRepresent s attempts × CrashStatesAreReady s attempts c × HasOpenableCrashState c

sound : (c : store.State) → IsOpened c → IsDatabase c.now
sound c newly = (newly.1 newly.0.settled.is_open).0

open_at : (c : store.State) (u : State) → Represents c false u → IsDurablyAt c u
open_at c u represents = record { represents = represents.0; crash_states = represents.1 refl }

-- where nothing of the desk is there, only the store or want of memory refuses
free_refused : (db : Database) → AreFree desk_table_defs db.schema → (f : AdoptFault) → IsRefusedBy db f → (f ≡ fault.Store) ⊎ (f ≡ fault.Memory)
free_refused db free fault.Store is = inl refl
free_refused db free (fault.Newer n) is = absurd (free_reports_nothing db (pos n) (each_free db.schema free) is.0)
free_refused db free (fault.Damaged r) is = absurd (is.taken (each_free db.schema free))
free_refused db free fault.Memory is = inr refl

-- ---- what a stop leaves

crash_states_states : (s : State) (attempts : List Attempt) (c : store.State) (states : States) → ((u : State) → states u → PossibleOutcome s attempts u) → HasCrashStates c states → CrashStatesAreReady s attempts c
crash_states_states s attempts c states lead crash_states trees left db same is =
    let it = crash_states.nothing_else trees left in
    let holds = reopened newest_schema trees it.0 (omega arith, omega arith) it.2 db same is in
    inr (it.0, lead it.0 it.1, (newest_schema, record { held = holds.0; free = none_later newest_schema db.schema refl }))

crash_states_one : (s : State) (attempts : List Attempt) (c : store.State) (u : State) → PossibleOutcome s attempts u → HasCrashStates c (λ v. v ≡ u) → CrashStatesAreReady s attempts c
crash_states_one s attempts c u lead = crash_states_states s attempts c (λ v. v ≡ u) (λ v is. subst (λ (x : State). PossibleOutcome s attempts x) (sym is) lead)

-- an adoption that came to no end
ready_after : (s : State) (attempts : List Attempt) (old db : Database) → IsDatabase old → IsReady s attempts old → IsOpenedAfter old db → IsReady s attempts db
ready_after s attempts old db was (inl (free, lead)) after = elim (opening_adopted old was free db after) [
  | inl same ↦ subst (IsReady s attempts) (sym same) (inl (free, lead))
  | inr made ↦ inr (opening, lead, (newest_schema, made.0))
]
ready_after s attempts old db was (inr (u, lead, (version, adoptable))) after =
    let it = adopted_again version old u adoptable db after in
    inr (u, lead, (it.0, it.2))

-- what a newly opened store leaves is what it shows
shown_left : (c : store.State) → IsOpened c → (trees : Trees) → c.may_leave trees → trees ≡ c.now.trees
shown_left c newly trees left = newly.0.settled.nothing_else trees left ∙ ap (λ (d : Database). d.trees) (sym newly.0.settled.shows)

opened_crash_states : (s : State) (attempts : List Attempt) (c : store.State) → IsOpened c → IsReady s attempts c.now → CrashStatesAreReady s attempts c
opened_crash_states s attempts c newly ready trees left db same is = subst (IsReady s attempts) (sym (same_database c.now db (sound c newly) is (same ∙ shown_left c newly trees left))) ready

refused_crash_states : (s : State) (attempts : List Attempt) (f : AdoptFault) (old new : store.State) → IsOpened old → IsReady s attempts old.now → HasRefused f old new → HasCleanDisk new → CrashStatesAreReady s attempts new
refused_crash_states s attempts f old new newly ready did clean trees left db same is = elim (did.crash.crash clean trees left) [
  | inl before ↦ opened_crash_states s attempts old newly ready trees before db same is
  | inr made ↦ ready_after s attempts old.now db (sound old newly) ready (is, inr (subst (λ (t : Trees). Adopts old t) (sym same) made newly.0))
]

-- what a newly opened store shows is what a stop leaves
shown_crash_states : (c : store.State) → IsOpened c → c.may_leave c.now.trees
shown_crash_states c newly = subst (λ (d : Database). c.may_leave d.trees) (sym newly.0.settled.shows) newly.0.settled.crash_states

crash_states_ready : (s : State) (attempts : List Attempt) (c : store.State) (phase : StorePhase) → Reached s attempts c phase → CrashStatesAreReady s attempts c
crash_states_ready s attempts c opened represented = opened_crash_states s attempts c represented.0 represented.1
crash_states_ready s attempts c (desk false) represented = crash_states_one s attempts c represented.0 represented.1 represented.2.crash_states
crash_states_ready s attempts c (desk true) represented = represented.1
crash_states_ready s attempts c refused represented = represented.1

-- ---- what a stop leaves can be opened

-- the trees are those of a sound database
abbrev IsOpenable : Trees → Type 0
IsOpenable trees = (schema : Schema) × IsDatabase (record { schema = schema; trees = trees })

can_open : (c : store.State) (left : (trees : Trees) × c.may_leave trees) → IsOpenable left.0 → (db : Database) × IsDatabase db × c.may_leave db.trees
can_open c left it = (record { schema = it.0; trees = left.0 }, it.1, left.1)

states_open : (c : store.State) (states : States) → HasCrashStates c states → HasOpenableCrashState c
states_open c states crash_states = ∥∥₁_map crash_states.something (λ left. (let it = crash_states.nothing_else left.0 left.1 in can_open c left (it.2.schema, it.2.holds.sound)))

made_open : (old : Database) (trees : Trees) → IsAdopted old trees → IsOpenable trees
made_open old trees (inl made) = (made.finds.schema, made.finds.holds.sound)
made_open old trees (inr migrated) = let found = (migrated.finds migrated.represented.0 migrated.represented.1).finds in (found.schema, found.holds.sound)

refused_openable : (f : AdoptFault) (old new : store.State) → IsOpened old → HasRefused f old new → HasCleanDisk new → (trees : Trees) → new.may_leave trees → IsOpenable trees
refused_openable f old new newly did clean trees left = elim (did.crash.crash clean trees left) [
  | inl before ↦ subst IsOpenable (sym (shown_left old newly trees before)) (old.now.schema, sound old newly)
  | inr made ↦ made_open old.now trees (made newly.0)
]

refused_open : (f : AdoptFault) (old new : store.State) → IsOpened old → HasRefused f old new → HasCleanDisk new → HasOpenableCrashState new
refused_open f old new newly did clean = ∥∥₁_map (did.something clean) (λ left. can_open new left (refused_openable f old new newly did clean left.0 left.1))

something_left : (s : State) (attempts : List Attempt) (c : store.State) (phase : StorePhase) → Reached s attempts c phase → HasOpenableCrashState c
something_left s attempts c opened represented = ∣ (c.now, sound c represented.0, shown_crash_states c represented.0) ∣₁
something_left s attempts c (desk false) represented = states_open c (λ u. u ≡ represented.0) represented.2.crash_states
something_left s attempts c (desk true) represented = represented.2
something_left s attempts c refused represented = represented.2

-- ---- calls

state_ready : (s : State) (attempts : List Attempt) (db : Database) → IsReady s attempts db → MayRepresent s attempts
state_ready s attempts db (inl (free, lead)) = (opening, lead)
state_ready s attempts db (inr (u, lead, adoptable)) = (u, lead)

-- a store that can be adopted
adopted_at : (s : State) (attempts : List Attempt) (old new : store.State) → IsOpened old → IsReady s attempts old.now → HasAdopted old new → HasCleanDisk new → Reached s attempts new (desk false)
adopted_at s attempts old new newly (inl (free, lead)) did clean = elim (did.adopted clean newly.0) [
  | inl none ↦ (opening, lead, none.1)
  | inr some ↦ absurd (not_free some.0 old.now some.1.0 some.1.1 free)
]
adopted_at s attempts old new newly (inr (u, lead, (version, adoptable))) did clean = (u, lead, did.again clean newly.0 version u adoptable.held)

-- a command
executed_at : (s u : State) (attempts : List Attempt) (new : store.State) (e : Envelope) (r : Result Reply DeskFault) → PossibleOutcome s attempts u → Executes u (Represents new (shuts r)) (HasCrashStates new) e r → Reached s (attempts ++ attempt_as e r) new (desk (shuts r))
executed_at s u attempts new e (Ok r) lead did = (step u e, leads_on s u (step u e) attempts (acknowledged e r ∷ []) lead (did.0, refl), open_at new (step u e) did.1)
executed_at s u attempts new e (Err Store) lead did = (
  (u, leads_on s u u attempts (in_flight e ∷ []) lead (inl refl)),
  crash_states_states s (attempts ++ in_flight e ∷ []) new (λ v. (v ≡ u) ⊎ (v ≡ step u e)) (λ v is. leads_on s u v attempts (in_flight e ∷ []) lead is) did.1,
  states_open new (λ v. (v ≡ u) ⊎ (v ≡ step u e)) did.1,
)
executed_at s u attempts new e (Err Memory) lead did = (u, leads_on s u u attempts [] lead refl, open_at new u did)
executed_at s u attempts new e (Err Shut) lead did = absurd did

-- a list of commands, of which those before led to t
ended_at : (s t : State) (attempts : List Attempt) (list : List Envelope) (n : ℕ) (new : store.State) (shut : Bool) (end : Option DeskFault) → PossibleOutcome s attempts t → RunEnds t list n (Represents new shut) (HasCrashStates new) shut end
    → Reached s (attempts ++ cut_off end (slice_get list n)) new (desk shut)
ended_at s t attempts list n new shut None lead did = subst (λ (b : Bool). Reached s (attempts ++ []) new (desk b)) (sym did.2) (t, leads_on s t t attempts [] lead refl, open_at new t (subst (λ (b : Bool). Represents new b t) did.2 did.1))
ended_at s t attempts list n new shut (Some Store) lead did =
    let e = did.2.0 in
    let more = attempts ++ in_flight e ∷ [] in
    let represented : Reached s more new (desk true) = (
      (t, leads_on s t t attempts (in_flight e ∷ []) lead (inl refl)),
      crash_states_states s more new (λ v. (v ≡ t) ⊎ (v ≡ step t e)) (λ v is. leads_on s t v attempts (in_flight e ∷ []) lead is) did.2.2,
      states_open new (λ v. (v ≡ t) ⊎ (v ≡ step t e)) did.2.2,
    ) in
    subst (λ (o : Option Envelope). Reached s (attempts ++ cut_off (Some Store) o) new (desk shut)) (sym did.2.1) (subst (λ (b : Bool). Reached s more new (desk b)) (sym did.1) represented)
ended_at s t attempts list n new shut (Some Memory) lead did = subst (λ (b : Bool). Reached s (attempts ++ []) new (desk b)) (sym did.1) (t, leads_on s t t attempts [] lead refl, open_at new t (subst (λ (b : Bool). Represents new b t) did.1 did.0))
ended_at s t attempts list n new shut (Some Shut) lead did = absurd did

-- a check
command_checked_at : (s u : State) (attempts : List Attempt) (new : store.State) (e : Envelope) (r : Result Checked DeskFault) → PossibleOutcome s attempts u → Checks u (Represents new false) e r → Reached s attempts new (desk false)
command_checked_at s u attempts new e (Ok c) lead did = (u, lead, open_at new u did.1)
command_checked_at s u attempts new e (Err Store) lead did = (u, lead, open_at new u did)
command_checked_at s u attempts new e (Err Memory) lead did = (u, lead, open_at new u did)
command_checked_at s u attempts new e (Err Shut) lead did = absurd did

-- a question
asked_at : (s u : State) (attempts : List Attempt) (new : store.State) (q : Question) (r : Result Answer DeskFault) → PossibleOutcome s attempts u → Asks newest_schema u (Represents new false) q r → Reached s attempts new (desk false)
asked_at s u attempts new q (Ok a) lead did = (u, lead, open_at new u did.1)
asked_at s u attempts new q (Err Store) lead did = (u, lead, open_at new u did)
asked_at s u attempts new q (Err Memory) lead did = (u, lead, open_at new u did)
asked_at s u attempts new q (Err Shut) lead did = absurd did

-- ---- all of an execution

clean_before : (old new : store.State) (P : Trees → Type 0) → Survives old new P → HasCleanDisk new → HasCleanDisk old
clean_before old new P survives clean = omega (arith, survives.clean, clean)

-- ---- the state that a store is at first

is_at : (s : State) (db : Database) → IsBeginningAt s db → IsAtState s db
is_at s db (inl free) = inl free
is_at s db (inr (version, held)) = inr (version, held.holds, held.whole)

found_first : (old new : store.State) → AdoptedFrom old (IsDurablyAt new) → (s : State) × IsBeginningAt s old.now
found_first old new (inl (free, at)) = (opening, inl (free, refl))
found_first old new (inr (version, (s, held, at))) = (s, inr (version, held))

-- what can be read there can be adopted
begun_at : (s : State) (db : Database) → IsBeginning db → IsBeginningAt s db → IsReady s [] db
begun_at s db is (inl (free, same)) = inl (free, sym same)
begun_at s db (inl free) (inr (version, held)) = absurd (not_free version db s held free)
begun_at s db (inr (other, (t, adoptable))) (inr (version, held)) =
    let same : other ≡ version = one_reported version db s held other (version_held other db t adoptable.held) in
    inr (s, refl, (version, record { held = held; free = subst (λ k. All (IsFree db.schema) (later_table_defs k)) same adoptable.free }))

found_at : (s : State) (old new : store.State) → IsOpened old → IsBeginningAt s old.now → HasAdopted old new → HasCleanDisk new → Reached s [] new (desk false)
found_at s old new newly (inl (free, same)) did clean = elim (did.adopted clean newly.0) [
  | inl none ↦ (opening, sym same, none.1)
  | inr some ↦ absurd (not_free some.0 old.now some.1.0 some.1.1 free)
]
found_at s old new newly (inr (version, held)) did clean = (s, refl, did.again clean newly.0 version s held)

module _ {S : Type 0} (g : Ghosts S) where
  first_state : (first : Held S) {c : Held S} {phase : StorePhase} {attempts : List Attempt} → IsOpened (state g first) → Execution g first c phase attempts → HasCleanDisk (state g c) → (s : State) × IsBeginningAt s (state g first).now
  first_state first newly (begun (inl free)) clean = (opening, inl (free, refl))
  first_state first newly (begun (inr (version, (s, adoptable)))) clean = (s, inr (version, adoptable.held))
  first_state first newly (found new did) clean = found_first (state g first) (state g new) (did.adopted clean newly.0)
  first_state first newly (adopted old new attempts before did) clean = first_state first newly before (clean_before _ _ _ did.crash clean)
  first_state first newly (unadopted old new attempts f before did) clean = first_state first newly before (clean_before _ _ _ did.crash clean)
  first_state first newly (executed old new shut attempts e r before did) clean = first_state first newly before (did.honest clean)
  first_state first newly (ran old new shut attempts list answered end before did) clean = first_state first newly before (did.honest clean)
  first_state first newly (command_checked old new attempts e r before did) clean = first_state first newly before (did.honest clean)
  first_state first newly (asked old new attempts q r before did) clean = first_state first newly before (did.honest clean)
  first_state first newly (verified old new attempts r before did) clean = first_state first newly before (did.honest clean)
  first_state first newly (indexed old new attempts r before did) clean = first_state first newly before (did.honest clean)
  first_state first newly (stopped old new phase attempts before kept left again) clean = first_state first newly before kept
  first_state first newly (given_back old phase attempts before again) clean = first_state first newly before clean

  -- whichever state it was at first
  execution : (s : State) (first : Held S) {c : Held S} {phase : StorePhase} {attempts : List Attempt} → IsBeginningAt s (state g first).now → IsOpened (state g first) → Execution g first c phase attempts → HasCleanDisk (state g c) → Reached s attempts (state g c) phase
  execution s first begins newly (begun is) clean = (newly, begun_at s (state g first).now is begins)
  execution s first begins newly (found new did) clean = found_at s (state g first) (state g new) newly begins did clean
  execution s first begins newly (adopted old new attempts before did) clean =
      let was = execution s first begins newly before (clean_before _ _ _ did.crash clean) in
      adopted_at s attempts (state g old) (state g new) was.0 was.1 did clean
  execution s first begins newly (unadopted old new attempts f before did) clean =
      let was = execution s first begins newly before (clean_before _ _ _ did.crash clean) in
      (state_ready s attempts (state g old).now was.1, refused_crash_states s attempts f (state g old) (state g new) was.0 was.1 did clean, refused_open f (state g old) (state g new) was.0 did clean)
  execution s first begins newly (executed old new shut attempts e r before did) clean =
      let at = execution s first begins newly before (did.honest clean) in
      let c = state g new in
      let done = did.executes clean at.0 (at.2.represents, λ _. at.2.crash_states) in
      subst (λ (b : Bool). Reached s (attempts ++ attempt_as e r) c (desk b)) (sym did.is_shut)
      (executed_at s at.0 attempts c e r at.1 (subst (λ (b : Bool). Executes at.0 (Represents c b) (HasCrashStates c) e r) did.is_shut done))
  execution s first begins newly (ran old new shut attempts list answered end before did) clean =
      let at = execution s first begins newly before (did.honest clean) in
      let c = state g new in
      let run = did.ran clean at.0 (at.2.represents, λ _. at.2.crash_states) in
      let n = length answered in
      let taken = acknowledgements list answered in
      let lead = leads_on s at.0 (fold at.0 (take n list)) attempts taken at.1 (all_taken at.0 list answered run.reported) in
      subst (λ (xs : List Attempt). Reached s xs c (desk shut)) (append_assoc attempts taken (cut_off end (slice_get list n)))
      (ended_at s (fold at.0 (take n list)) (attempts ++ taken) list n c shut end lead run.ended)
  execution s first begins newly (command_checked old new attempts e r before did) clean =
      let at = execution s first begins newly before (did.honest clean) in
      command_checked_at s at.0 attempts (state g new) e r at.1 (did.checks clean at.0 (at.2.represents, λ _. at.2.crash_states))
  execution s first begins newly (asked old new attempts q r before did) clean =
      let at = execution s first begins newly before (did.honest clean) in
      asked_at s at.0 attempts (state g new) q r at.1 (did.asks clean at.0 (at.2.represents, λ _. at.2.crash_states))
  execution s first begins newly (verified old new attempts r before did) clean =
      let at = execution s first begins newly before (did.honest clean) in
      (at.0, at.1, open_at (state g new) at.0 (did.unbroken clean at.0 (at.2.represents, λ _. at.2.crash_states)).1)
  execution s first begins newly (indexed old new attempts r before did) clean =
      let at = execution s first begins newly before (did.honest clean) in
      (at.0, at.1, open_at (state g new) at.0 (did.represents clean at.0 (at.2.represents, λ _. at.2.crash_states)))
  execution s first begins newly (stopped old new phase attempts before kept left again) clean =
      let was = execution s first begins newly before kept in
      (again, crash_states_ready s attempts (state g old) phase was (state g new).now.trees left (state g new).now refl (sound (state g new) again))
  execution s first begins newly (given_back old phase attempts before again) clean =
      let was = execution s first begins newly before clean in
      let c = state g old in
      (again, crash_states_ready s attempts c phase was c.now.trees (shown_crash_states c again) c.now refl (sound c again))

  -- ---- what is so then

  opened_so : (c : Held S) (s : State) (attempts : List Attempt) → IsReady s attempts (state g c).now → (now : State) × PossibleOutcome s attempts now × IsFoundAt g c now
  opened_so c s attempts (inl (free, lead)) = (opening, lead, record { valid = opening_is_valid; accounted = accounted_valid opening opening_is_valid; tables = inl (free, refl); accepted = λ f new did clean. free_refused (state g c).now free f (did.refused clean) })
  opened_so c s attempts (inr (u, lead, (version, adoptable))) = (
    u,
    lead,
    record {
      valid = adoptable.held.valid;
      accounted = accounted_valid u adoptable.held.valid;
      tables = inr (version, adoptable.held.holds, adoptable.held.whole);
      accepted = λ f new did clean. unrefused version (state g c).now u adoptable f (did.refused clean);
    },
  )

  kept_so : (c : Held S) (u : State) → IsDurablyAt (state g c) u → IsKeptAt g c u
  kept_so c u at = record {
    valid = at.represents.valid;
    accounted = accounted_valid u at.represents.valid;
    tables = λ is_live. (at.represents.shows is_live).holds;
    command_checked = λ e said new did clean. (did.checks clean u (at.represents, λ _. at.crash_states)).0;
    reported = λ q a new did clean. (
        let it = did.asks clean u (at.represents, λ _. at.crash_states) in
        answered u at.represents.valid.sound q a it.0);
  }

  so_at : (c : Held S) (s : State) (attempts : List Attempt) (phase : StorePhase) → Reached s attempts (state g c) phase → (now : State) × PossibleOutcome s attempts now × IsSoAt g c now phase
  so_at c s attempts opened represented = opened_so c s attempts represented.1
  so_at c s attempts (desk false) represented = (represented.0, represented.1, kept_so c represented.0 represented.2)
  so_at c s attempts (desk true) represented = (represented.0.0, represented.0.1, tt)
  so_at c s attempts refused represented = (represented.0.0, represented.0.1, tt)

  -- what is so of a store that was at this state first
  pub so_from : (s : State) (first c : Held S) (phase : StorePhase) (attempts : List Attempt) → IsBeginningAt s (state g first).now → IsOpened (state g first) → Execution g first c phase attempts → HasCleanDisk (state g c)
      → (now : State) × PossibleOutcome s attempts now × IsSoAt g c now phase
  so_from s first c phase attempts begins newly life clean = so_at c s attempts phase (execution s first begins newly life clean)

  -- where the commands may have led, and what is so there
  pub outcome : (first c : Held S) (phase : StorePhase) (attempts : List Attempt) → IsOpened (state g first) → Execution g first c phase attempts → HasCleanDisk (state g c)
      → (s : State) × IsAtState s (state g first).now × ((now : State) × PossibleOutcome s attempts now × IsSoAt g c now phase) × HasOpenableCrashState (state g c)
  outcome first c phase attempts newly life clean =
      let (s, begins) = first_state first newly life clean in
      (s, is_at s (state g first).now begins, so_from s first c phase attempts begins newly life clean, something_left s attempts (state g c) phase (execution s first begins newly life clean))

  pub headline : Headline g
  headline first c phase attempts newly life clean =
      let (s, at, (now, lead, so), left) = outcome first c phase attempts newly life clean in
      (s, at, (now, outcome_run s now attempts phase lead, so), left)
