-- What is answered of batches in a list.
use Rattle.std.specs.Prelude.{ℕ, ◌-◌, List, Option, Some, None, length, map, slice_get, filter_map}
use Rattle.plant_base.specs.{State, control_lines_of, job_at, recipe_at, Batch, BatchEvent, BatchRow, Header, Job, OrderRow, Recipe, RecipeLine}
use Rattle.plant_base.specs.declared.rows.RecipeLine.TheVariants.{In, Out, Parameter, Phase}
use Rattle.plant_view.specs.{events_of}
use Rattle.plant_questions.specs.{NextPhase, OpenBatch, Page, PlannedBatch}
use Rattle.plant_answers_pages.specs.RecipeAnswers.{unit_among}

-- ---- what is next

abbrev pub phase_of : RecipeLine → Option NextPhase
phase_of (In def amount) = None
phase_of (Out def amount) = None
phase_of (Parameter name value) = None
phase_of (Phase unit_procedure operation phase) = Some (record { phase = phase; unit_procedure = unit_procedure })

-- the phases of the control recipe of a batch, in their order
abbrev pub phases_of : State → List ℕ → List NextPhase
phases_of s batch = filter_map (λ l. phase_of l.line) (control_lines_of s batch)

-- ---- what is to be made

abbrev pub planned_by : State → OrderRow → Header → PlannedBatch
planned_by s o h = record { order = o; header = h; unit = unit_among s.definitions (Some h.product) }

abbrev pub planned_of_recipe : State → OrderRow → Option Recipe → Option PlannedBatch
planned_of_recipe s o None = None
planned_of_recipe s o (Some r) = Some (planned_by s o r.header)

-- by the order, and the recipe that it names: both are there in a consistent state
abbrev pub planned_of : State → Option Job → Option PlannedBatch
planned_of s None = None
planned_of s (Some j) = planned_of_recipe s j.order (recipe_at s j.order.recipe j.order.version)

-- ---- when something happened

abbrev pub moment_after : ℕ → Option BatchEvent → ℕ
moment_after released None = released
moment_after released (Some e) = e.at

-- the moment of the last of these events of a batch, that of its release where there is none
abbrev pub last_moment : Batch → List BatchEvent → ℕ
last_moment b events = moment_after b.at (slice_get events (length events - 1))

-- ---- the batch

-- the row of a batch that is to make this, with these phases, and of which the last event came then
abbrev pub opened : BatchRow → Option PlannedBatch → List NextPhase → ℕ → OpenBatch
opened r planned phases last = record {
  row = r;
  planned = planned;
  phases = length phases;
  next_phase = slice_get phases (r.next - 1);
  last = last;
}

abbrev pub open_batch : State → BatchRow → OpenBatch
open_batch s r = opened r (planned_of s (job_at s r.batch.job)) (phases_of s r.batch.id) (last_moment r.batch (events_of s r.batch.id))

abbrev pub batch_page : State → Page BatchRow → Page OpenBatch
batch_page s page = record { rows = map (open_batch s) page.rows; has_more = page.has_more }
