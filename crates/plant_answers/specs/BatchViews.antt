-- What is known of a batch.
use Rattle.std.specs.Prelude.{List, Option, Some, None, map, filter, filter_map}
use Rattle.plant_base.specs.{State, same, recipe_at, job_at, control_lines_of, Batch, ControlLine, Definition, Header, Job, Recipe}
use Rattle.plant_base.specs.declared.refusal.Refusal.TheVariants.{UnknownRecipe, UnknownOrder, UnknownBatch}
use Rattle.plant_view.specs.{progress_at}
use Rattle.plant_questions.specs.{Answer, BatchView, MeasuredLine}
use Rattle.plant_answers_genealogy.specs.{consumption, production}
use Rattle.plant_answers_pages.specs.{material_of, unit_among}
use Rattle.plant_questions.specs.declared.question.Answer.TheVariants as A

-- ---- lines

abbrev pub measured_line : List Definition → ControlLine → MeasuredLine
measured_line definitions l = record { line = l; unit = unit_among definitions (material_of l.line) }

-- ---- the batch

-- a batch of this order and of a master recipe with this header: its control recipe by number, what happened to it and
-- what it took and brought, each in its order
abbrev pub batch_view : State → Batch → Job → Header → BatchView
batch_view s b j h = record {
  job = j;
  header = h;
  batch = b;
  progress = progress_at s b.id;
  lines = map (measured_line s.definitions) (control_lines_of s b.id);
  events = filter (λ e. same e.batch b.id) s.events;
  consumed = filter_map (consumption s b.id) s.movements;
  produced = filter_map (production s b.id) s.movements;
}

-- In a consistent state the order of a batch is there, and the recipe of that order, so that only an unknown batch is refused.
abbrev pub answer_headed : State → Batch → Job → Option Recipe → Answer
answer_headed s b j None = A.Unknown UnknownRecipe
answer_headed s b j (Some r) = A.Batch (batch_view s b j r.header)

abbrev pub answer_planned : State → Batch → Option Job → Answer
answer_planned s b None = A.Unknown UnknownOrder
answer_planned s b (Some j) = answer_headed s b j (recipe_at s j.order.recipe j.order.version)

abbrev pub answer_batch : State → Option Batch → Answer
answer_batch s None = A.Unknown UnknownBatch
answer_batch s (Some b) = answer_planned s b (job_at s b.job)
