-- The state table of a batch. It is the desk's own, after the example of procedural states and commands of IEC 61512-1.
-- `Done` is the ending of a state without a command.
use Rattle.std.specs.Prelude.{◌≡◌, ◌↔◌, List, [], ◌∷◌, Option, Some, None, Contains}
use Rattle.plant_base.specs.{BatchState, Word}
use Rattle.plant_base.specs.declared.states.BatchState.TheVariants.{Idle, Running, Complete, Pausing, Paused, Holding, Held, Restarting, Stopping, Stopped, Aborting, Aborted}
use Rattle.plant_base.specs.declared.states.Word.TheVariants.{Start, Stop, Hold, Restart, Abort, Reset, Pause, Resume, Done}

-- a row says that from a state a word leads to a state
abbrev pub Row : Type 0
Row = BatchState × Word × BatchState

-- the rows of the state table
abbrev pub state_table : List Row
state_table =
    (Idle, Start, Running)
    ∷ (Running, Done, Complete)
    ∷ (Running, Pause, Pausing)
    ∷ (Running, Hold, Holding)
    ∷ (Running, Stop, Stopping)
    ∷ (Running, Abort, Aborting)
    ∷ (Pausing, Done, Paused)
    ∷ (Pausing, Hold, Holding)
    ∷ (Pausing, Stop, Stopping)
    ∷ (Pausing, Abort, Aborting)
    ∷ (Paused, Resume, Running)
    ∷ (Paused, Hold, Holding)
    ∷ (Paused, Stop, Stopping)
    ∷ (Paused, Abort, Aborting)
    ∷ (Holding, Done, Held)
    ∷ (Holding, Stop, Stopping)
    ∷ (Holding, Abort, Aborting)
    ∷ (Held, Restart, Restarting)
    ∷ (Held, Stop, Stopping)
    ∷ (Held, Abort, Aborting)
    ∷ (Restarting, Done, Running)
    ∷ (Restarting, Hold, Holding)
    ∷ (Restarting, Stop, Stopping)
    ∷ (Restarting, Abort, Aborting)
    ∷ (Stopping, Done, Stopped)
    ∷ (Stopping, Abort, Aborting)
    ∷ (Stopped, Reset, Idle)
    ∷ (Stopped, Abort, Aborting)
    ∷ (Aborting, Done, Aborted)
    ∷ (Aborted, Reset, Idle)
    ∷ (Complete, Reset, Idle)
    ∷ []

-- the state that a word leads to, by cases
abbrev pub next_state_of : BatchState → Word → Option BatchState
next_state_of Idle Start = Some Running
next_state_of Idle _ = None
next_state_of Running Done = Some Complete
next_state_of Running Pause = Some Pausing
next_state_of Running Hold = Some Holding
next_state_of Running Stop = Some Stopping
next_state_of Running Abort = Some Aborting
next_state_of Running _ = None
next_state_of Pausing Done = Some Paused
next_state_of Pausing Hold = Some Holding
next_state_of Pausing Stop = Some Stopping
next_state_of Pausing Abort = Some Aborting
next_state_of Pausing _ = None
next_state_of Paused Resume = Some Running
next_state_of Paused Hold = Some Holding
next_state_of Paused Stop = Some Stopping
next_state_of Paused Abort = Some Aborting
next_state_of Paused _ = None
next_state_of Holding Done = Some Held
next_state_of Holding Stop = Some Stopping
next_state_of Holding Abort = Some Aborting
next_state_of Holding _ = None
next_state_of Held Restart = Some Restarting
next_state_of Held Stop = Some Stopping
next_state_of Held Abort = Some Aborting
next_state_of Held _ = None
next_state_of Restarting Done = Some Running
next_state_of Restarting Hold = Some Holding
next_state_of Restarting Stop = Some Stopping
next_state_of Restarting Abort = Some Aborting
next_state_of Restarting _ = None
next_state_of Stopping Done = Some Stopped
next_state_of Stopping Abort = Some Aborting
next_state_of Stopping _ = None
next_state_of Stopped Reset = Some Idle
next_state_of Stopped Abort = Some Aborting
next_state_of Stopped _ = None
next_state_of Aborting Done = Some Aborted
next_state_of Aborting _ = None
next_state_of Aborted Reset = Some Idle
next_state_of Aborted _ = None
next_state_of Complete Reset = Some Idle
next_state_of Complete _ = None

-- the moves by cases are the rows, no more and no less
abbrev pub IsWholeTable : Type 0
IsWholeTable = (from : BatchState) (word : Word) (to : BatchState) → Contains state_table (from, word, to) ↔ (next_state_of from word ≡ Some to)
