-- The words and numbers of states, events and kinds.
use Rattle.std.specs.Prelude.{ℕ, ℤ, pos, List, [], ◌∷◌, Option, Some, option_map, find, codes, if◌then◌else◌}
use Rattle.std.specs.Ordering.{int_eq}
use Rattle.sqlite.specs.declared.types.Value.{Value}
use Rattle.plant_base.specs.{◌>>=◌, edge_kind_number, mark_kind_number, same, greatest_phase, recipe_state_name, job_state_name, batch_state_name, word_name, BatchState, EdgeKind, Event, JobState, MarkKind, RecipeState, Word}
use Rattle.plant_base.specs.declared.rows.EdgeKind.TheVariants as edge_kind
use Rattle.plant_base.specs.declared.rows.MarkKind.TheVariants as mark_kind
use Rattle.plant_base.specs.declared.states.RecipeState.TheVariants as recipe_state
use Rattle.plant_base.specs.declared.states.JobState.TheVariants as job_state
use Rattle.plant_base.specs.declared.states.BatchState.TheVariants as batch_state
use Rattle.plant_base.specs.declared.states.Word.TheVariants as word
use Rattle.plant_base.specs.declared.states.Event.TheVariants as event
use Rattle.plant_tables_columns.specs.Reading.{text_in, integer_in, by_text, by_number, number_in}
use Rattle.plant_tables_columns.specs.declared.line.LineKindCode.{LineKindCode}
use Rattle.plant_tables_columns.specs.declared.line.LineKindCode.TheVariants as line_kind_code
use Rattle.plant_tables_columns.specs.declared.booked.MovementKindCode.{MovementKindCode}
use Rattle.plant_tables_columns.specs.declared.booked.MovementKindCode.TheVariants as movement_kind_code
use Rattle.plant_tables_columns.specs.declared.recalls.RecallState.{RecallState}
use Rattle.plant_tables_columns.specs.declared.recalls.RecallState.TheVariants as recall_state

-- the first of these that has the name
abbrev pub named : {A : Type 0} → (A → List ℕ) → List A → List ℕ → Option A
named name_of all name = find (λ a. same (name_of a) name) all

-- the first of these that has the number
abbrev pub numbered : {A : Type 0} → (A → ℕ) → List A → ℤ → Option A
numbered number_of all number = find (λ a. int_eq (pos (number_of a)) number) all

-- ---- words

abbrev pub all_recipe_states : List RecipeState
all_recipe_states = recipe_state.Draft ∷ recipe_state.Approved ∷ recipe_state.Withdrawn ∷ []

unfoldable pub recipe_state_from : Value → Option RecipeState
recipe_state_from = by_text (named recipe_state_name all_recipe_states)

abbrev pub all_job_states : List JobState
all_job_states = job_state.Open ∷ job_state.Cancelled ∷ job_state.Released ∷ job_state.Finished ∷ []

unfoldable pub job_state_from : Value → Option JobState
job_state_from = by_text (named job_state_name all_job_states)

abbrev pub all_batch_states : List BatchState
all_batch_states =
    batch_state.Idle ∷ batch_state.Running ∷ batch_state.Complete ∷ batch_state.Pausing ∷ batch_state.Paused ∷ batch_state.Holding ∷ batch_state.Held
    ∷ batch_state.Restarting ∷ batch_state.Stopping ∷ batch_state.Stopped ∷ batch_state.Aborting ∷ batch_state.Aborted ∷ []

unfoldable pub batch_state_from : Value → Option BatchState
batch_state_from = by_text (named batch_state_name all_batch_states)

abbrev pub recall_state_name : RecallState → List ℕ
recall_state_name recall_state.Open = codes "open"
recall_state_name recall_state.Lifted = codes "lifted"

abbrev pub all_recall_states : List RecallState
all_recall_states = recall_state.Open ∷ recall_state.Lifted ∷ []

unfoldable pub recall_state_from : Value → Option RecallState
recall_state_from = by_text (named recall_state_name all_recall_states)

abbrev pub all_words : List Word
all_words = word.Start ∷ word.Stop ∷ word.Hold ∷ word.Restart ∷ word.Abort ∷ word.Reset ∷ word.Pause ∷ word.Resume ∷ word.Done ∷ []

unfoldable pub word_named : List ℕ → Option Word
word_named = named word_name all_words

-- ---- events

-- its word
abbrev pub event_name : Event → List ℕ
event_name (event.Moved word) = word_name word
event_name (event.PhaseDone phase) = codes "phase"
event_name event.Closed = codes "close"

-- the phase that was done, else 0
abbrev pub event_phase : Event → ℕ
event_phase (event.Moved word) = 0
event_phase (event.PhaseDone phase) = phase
event_phase event.Closed = 0

-- an event that has no phase
unfoldable pub plain_event : List ℕ → Option Event
plain_event name = if same name (codes "close") then Some event.Closed else option_map event.Moved (word_named name)

-- a phase has its number, and every other event the number 0
unfoldable pub event_named : List ℕ → ℤ → Option Event
event_named name phase =
    if same name (codes "phase") then option_map event.PhaseDone (number_in 1 greatest_phase phase) else (do
      none ← number_in 0 0 phase
      plain_event name)

-- the event of a word and the number of a phase
unfoldable pub event_from : Value → Value → Option Event
event_from word phase = do
  name ← text_in word
  number ← integer_in phase
  event_named name number

-- ---- kinds

abbrev pub line_kind_number : LineKindCode → ℕ
line_kind_number line_kind_code.In = 1
line_kind_number line_kind_code.Out = 2
line_kind_number line_kind_code.Parameter = 3
line_kind_number line_kind_code.Phase = 4

abbrev pub all_line_kind_codes : List LineKindCode
all_line_kind_codes = line_kind_code.In ∷ line_kind_code.Out ∷ line_kind_code.Parameter ∷ line_kind_code.Phase ∷ []

-- the kind of line of the number
unfoldable pub line_kind_from : Value → Option LineKindCode
line_kind_from = by_number (numbered line_kind_number all_line_kind_codes)

abbrev pub movement_kind_number : MovementKindCode → ℕ
movement_kind_number movement_kind_code.Received = 1
movement_kind_number movement_kind_code.Consumed = 2
movement_kind_number movement_kind_code.Produced = 3
movement_kind_number movement_kind_code.Scrapped = 4
movement_kind_number movement_kind_code.Divided = 5
movement_kind_number movement_kind_code.Split = 6
movement_kind_number movement_kind_code.Merged = 7

abbrev pub all_movement_kind_codes : List MovementKindCode
all_movement_kind_codes =
    movement_kind_code.Received ∷ movement_kind_code.Consumed ∷ movement_kind_code.Produced ∷ movement_kind_code.Scrapped ∷ movement_kind_code.Divided ∷ movement_kind_code.Split ∷ movement_kind_code.Merged ∷ []

-- the kind of movement of the number
unfoldable pub movement_kind_from : Value → Option MovementKindCode
movement_kind_from = by_number (numbered movement_kind_number all_movement_kind_codes)

abbrev pub all_edge_kinds : List EdgeKind
all_edge_kinds = edge_kind.LotToBatch ∷ edge_kind.BatchToLot ∷ edge_kind.LotToLot ∷ []

-- the kind of edge of the number
unfoldable pub edge_kind_from : Value → Option EdgeKind
edge_kind_from = by_number (numbered edge_kind_number all_edge_kinds)

abbrev pub all_mark_kinds : List MarkKind
all_mark_kinds = mark_kind.Lot ∷ mark_kind.Batch ∷ []

-- the kind of node of the number
unfoldable pub mark_kind_from : Value → Option MarkKind
mark_kind_from = by_number (numbered mark_kind_number all_mark_kinds)
