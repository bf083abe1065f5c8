-- The outcome of the work that the arguments name, over a store that was opened.
use Rattle.std.specs.Prelude.{◌≡◌, ◌⊎◌, ℕ, List, Bool, Option, None, Some, Result, Err, ⊤}
use Rattle.sqlite.specs.declared.error.Error.{Error}
use Rattle.sqlite_trees.specs.declared.store.Store.{Ghosts}
use Rattle.sqlite.specs.State as store
use Rattle.sqlite.specs.State.{HasCleanDisk}
use Rattle.plant_base.specs.{State}
use Rattle.plant_desk_store.specs.{HasCrashStates, IsDurablyAt, Represents}
use Rattle.plant_http_requests.specs.{field_of, Profile, Terms}
use Rattle.plant_http_requests.specs.declared.profile.Profile.TheVariants as profile
use Rattle.desk_file.specs.{IsOutOfMemory, Opens, WasDone}
use Rattle.desk_cli.specs.{names_of, Serving, Work}
use Rattle.desk_cli.specs.declared.hosts.Hosts.{Hosts}
use Rattle.desk_cli.specs.declared.meaning.Work.TheVariants as work
use Rattle.desk_program.specs.{after_closing, AdoptedIfHonest, Exits, WasRefused, TaskGives, ProgramFault}
use Rattle.desk_program.specs.declared.fault.ProgramFault.TheVariants as fault
use Rattle.desk_server.specs.{EndsServing, HasServed, ServingFault}
use Rattle.desk.specs.Served.{outcome_of}

-- The profile by which requests are served: with the page, under these further names, and else without it.
abbrev pub IsProfileOf : Option Hosts → Profile → Type 0
IsProfileOf None profile.Open = ⊤
IsProfileOf None (profile.Page hosts) = ⊥
IsProfileOf (Some hosts) profile.Open = ⊥
IsProfileOf (Some hosts) (profile.Page names) = names.now ≡ names_of hosts

-- The terms by which requests are judged, whatever the time of each: that profile, that field and those references, and as far ahead as is said.
abbrev pub IsTermsOf : Serving → Terms → Type 0
IsTermsOf serving terms = IsProfileOf serving.page terms.profile × (field_of terms ≡ serving.operator_field)
    × (terms.needs_references ≡ serving.needs_references) × (terms.most_ahead ≡ serving.most_ahead)
    × (terms.name.now ≡ serving.name) × (terms.language.now ≡ serving.language)

-- A desk over a store has served at most so many connections from this state on, by these terms: it is where their jobs led, shut or not.
abbrev pub HasServedFrom : Terms → ℕ → State → store.State → Bool → Type 0
HasServedFrom terms most s after shut = HasServed terms most s (Represents after shut) shut (λ states. HasCrashStates after states)

-- How the serving of at most so many connections ended: the outcome is that of its end, and the desk, shut or not, was closed
-- where they led.
abbrev pub EndsDesk : Serving → ((State → Type 0) → Type 0) → store.State → Result Bool ProgramFault → Type 0
EndsDesk serving from after done = (terms : Terms) × IsTermsOf serving terms
    × (served : Result (Unit {0}) ServingFault) × (done ≡ outcome_of served)
    × ((shut : Bool) × EndsServing shut served × from (λ s. HasServedFrom terms serving.count s after shut))

-- an open desk served, from each state that it represented
abbrev pub DeskServes : Serving → store.State → store.State → Result Bool ProgramFault → Type 0
DeskServes serving before after done =
    EndsDesk serving (λ holds. HasCleanDisk after → (s : State) → IsDurablyAt before s → holds s) after done

-- the outcome of serving over a store: it was adopted, and served from there; or it wasn't adopted
abbrev pub ServingGives : Serving → store.State → store.State → Result Bool ProgramFault → Type 0
ServingGives serving before after done =
    EndsDesk serving (λ holds. AdoptedIfHonest before after holds) after done
    ⊎ WasRefused before after done

-- The outcome of the work, by the store as it was handed over and as it was given back. What the standard streams hold isn't
-- known.
abbrev pub WorkGives : Work → store.State → Result Bool ProgramFault → store.State → Type 0
WorkGives (work.Task task) before done after = TaskGives before after task None None None None done
WorkGives (work.Serve serving) before done after = ServingGives serving before after done

-- ---- the exit status

-- The exit status, and what is on standard error, where the work was done over the store that was opened for it and closed after it, or couldn't
-- be. `opens`, `gives` and `closes` are what the opening, the work and the closing promise.
pub record ExitsDone {S : Type 0} (g : Ghosts S) (opens : Opens S) (gives : store.State → Result Bool ProgramFault → store.State → Type 0) (closes : S → Bool → Type 0) (old new : Option (List ℕ)) (status : ℕ) : Type 0 where
  pub outcome : Result Bool ProgramFault
  pub is_closed : Bool
  pub was_done : WasDone g opens gives closes outcome is_closed
  pub exits : Exits old new status (after_closing outcome is_closed)

-- the same where the store didn't open: a fault of memory where the opening says so, and of the store at any other error
pub record ExitsUnopened {S : Type 0} (opens : Opens S) (old new : Option (List ℕ)) (status : ℕ) : Type 0 where
  pub error : Error
  pub unopened : opens (Err error)
  pub memory : IsOutOfMemory error → Exits old new status (Err fault.Memory)
  pub store : (IsOutOfMemory error → ⊥) → Exits old new status (Err fault.Store)

-- the one or the other
abbrev pub ExitsOver : {S : Type 0} (g : Ghosts S) → Opens S → (store.State → Result Bool ProgramFault → store.State → Type 0) → (S → Bool → Type 0) → Option (List ℕ) → Option (List ℕ) → ℕ → Type 0
ExitsOver g opens gives closes old new status = ExitsDone g opens gives closes old new status ⊎ ExitsUnopened opens old new status

-- the exit status alone, whatever is on standard error
abbrev pub ExitsBy : {S : Type 0} (g : Ghosts S) → Opens S → Work → (S → Bool → Type 0) → ℕ → Type 0
ExitsBy g opens work closes status = (old : Option (List ℕ)) × (new : Option (List ℕ)) × ExitsOver g opens (WorkGives work) closes old new status
