-- The progress of a batch: the fold of its events.
use Rattle.std.specs.Prelude.{◌≡◌, ℕ, ◌+◌, ◌≤◌, Bool, true, false, ◌&&◌, ◌==◌, not, nat_le, if◌then◌else◌, List, ◌++◌, fold, Option, Some, None, Result, Ok, Err, IsErr, IsTrue}
use Rattle.std.specs.Result.{result_ok, result_unwrap_or}
use Rattle.plant_base.specs.{BatchState, Event, Refusal, Word}
use Rattle.plant_base.specs.declared.states.BatchState.TheVariants.{Idle, Running, Complete, Stopped, Aborted}
use Rattle.plant_base.specs.declared.states.Word.TheVariants.{Reset, Done}
use Rattle.plant_base.specs.declared.states.Event.TheVariants.{Moved, PhaseDone, Closed}
use Rattle.plant_base.specs.declared.refusal.Refusal.TheVariants.{BadMove, PhasesLeft, NotNextPhase, BatchClosed, WrongState, TooMany, NotFinished}
use Rattle.plant_recipe.specs.declared.progress.Progress.{Progress}
use Rattle.plant_recipe.specs.StateTable.{next_state_of}

-- no attempt is begun after this one
abbrev pub greatest_attempt : ℕ
greatest_attempt = 99

-- of the 128 lines of a recipe one at least is an output, so no recipe has more phases
abbrev pub greatest_phases : ℕ
greatest_phases = 127

-- a released batch: idle, at its first attempt and its first phase, and open
abbrev pub opening_progress : Progress
opening_progress = record { state = Idle; attempt = 1; next = 1; closed = false }

abbrev pub is_running : BatchState → Bool
is_running Running = true
is_running _ = false

-- the states in which a batch may be closed
abbrev pub is_ended : BatchState → Bool
is_ended Complete = true
is_ended Stopped = true
is_ended Aborted = true
is_ended _ = false

abbrev pub is_done : Word → Bool
is_done Done = true
is_done _ = false

abbrev pub is_reset : Word → Bool
is_reset Reset = true
is_reset _ = false

-- the next phase is one of the recipe's
abbrev pub is_phase_left : ℕ → Progress → Bool
is_phase_left phases p = nat_le p.next phases && nat_le p.next greatest_phases

-- ---- one turn

-- the refusal where the test passes, and else the rest
abbrev pub refuse_event : Bool → Refusal → Result Progress Refusal → Result Progress Refusal
refuse_event test refusal rest = if test then Err refusal else rest

-- a reset also begins another attempt at the first phase
abbrev pub moved_to : Progress → Word → BatchState → Progress
moved_to p word to = if is_reset word then (record { state = to; attempt = p.attempt + 1; next = 1; closed = p.closed }) else (record { state = to; attempt = p.attempt; next = p.next; closed = p.closed })

-- the running ends only when every phase is done
abbrev pub ends_with_phases_left : ℕ → Progress → Word → Bool
ends_with_phases_left phases p word = is_done word && is_running p.state && is_phase_left phases p

abbrev pub has_no_attempt_left : Progress → Word → Bool
has_no_attempt_left p word = is_reset word && nat_le greatest_attempt p.attempt

abbrev pub turn_to : ℕ → Progress → Word → Option BatchState → Result Progress Refusal
turn_to phases p word None = Err BadMove
turn_to phases p word (Some to) =
    refuse_event (ends_with_phases_left phases p word) PhasesLeft
    (refuse_event p.closed BatchClosed
    (refuse_event (has_no_attempt_left p word) TooMany
    (Ok (moved_to p word to))))

-- a word or an ending moves the batch by the state table
unfoldable pub turn_moved : ℕ → Progress → Word → Result Progress Refusal
turn_moved phases p word = turn_to phases p word (next_state_of p.state word)

-- the next phase is done while the batch runs
unfoldable pub turn_phase_done : ℕ → Progress → ℕ → Result Progress Refusal
turn_phase_done phases p number =
    refuse_event (not (number == p.next && is_phase_left phases p)) NotNextPhase
    (refuse_event p.closed BatchClosed
    (refuse_event (not (is_running p.state)) WrongState
    (Ok (record { state = p.state; attempt = p.attempt; next = p.next + 1; closed = p.closed }))))

-- an ended batch is closed
unfoldable pub turn_closed : Progress → Result Progress Refusal
turn_closed p =
    refuse_event p.closed BatchClosed
    (refuse_event (not (is_ended p.state)) NotFinished
    (Ok (record { state = p.state; attempt = p.attempt; next = p.next; closed = true })))

-- what an event makes of a progress, or the first condition that fails
abbrev pub turn : ℕ → Progress → Event → Result Progress Refusal
turn phases p (Moved word) = turn_moved phases p word
turn phases p (PhaseDone number) = turn_phase_done phases p number
turn phases p Closed = turn_closed p

-- ---- the fold

-- a turn of what came about so far
abbrev pub then_turn : ℕ → Result Progress Refusal → Event → Result Progress Refusal
then_turn phases (Ok p) event = turn phases p event
then_turn phases (Err refusal) event = Err refusal

-- the fold of the events from the opening on, and the first refusal where an event is refused at its position
unfoldable pub run_of : ℕ → List Event → Result Progress Refusal
run_of phases events = fold (then_turn phases) (Ok opening_progress) events

-- the fold, and none where an event is refused at its position
abbrev pub progress_of : ℕ → List Event → Option Progress
progress_of phases events = result_ok (run_of phases events)

-- an event that is refused at its position is passed over
abbrev pub turn_or_stay : ℕ → Progress → Event → Progress
turn_or_stay phases p event = result_unwrap_or (turn phases p event) p

-- the fold, defined so that every list of events has it; where no event is refused it is the fold
unfoldable pub progress_after : ℕ → List Event → Progress
progress_after phases events = fold (turn_or_stay phases) opening_progress events

-- ---- laws

-- a closed batch accepts no event
abbrev pub ClosingIsFinal : Type 0
ClosingIsFinal = (phases : ℕ) (p : Progress) (event : Event) → IsTrue p.closed → IsErr (turn phases p event)

pub record IsInRange (phases : ℕ) (p : Progress) : Type 0 where
  pub first_attempt : 1 ≤ p.attempt
  pub last_attempt : p.attempt ≤ greatest_attempt
  pub first_phase : 1 ≤ p.next
  pub last_phase : p.next ≤ greatest_phases + 1
  pub within_phases : p.next ≤ phases + 1
  pub ended : IsTrue p.closed → IsTrue (is_ended p.state)
  pub finished : p.state ≡ Complete → is_phase_left phases p ≡ false

abbrev pub StaysInRange : Type 0
StaysInRange = (phases : ℕ) (events : List Event) (p : Progress) → progress_of phases events ≡ Some p → IsInRange phases p

-- more events never lower the attempt
abbrev pub NeverFalls : Type 0
NeverFalls = (phases : ℕ) (events more : List Event) (p q : Progress) → progress_of phases events ≡ Some p → progress_of phases (events ++ more) ≡ Some q → p.attempt ≤ q.attempt

-- both definitions of the fold agree where no event is refused
abbrev pub GoesAlong : Type 0
GoesAlong = (phases : ℕ) (events : List Event) (p : Progress) → progress_of phases events ≡ Some p → progress_after phases events ≡ p
