-- The control recipe of a batch, and what was booked of each line.
use Rattle.std.specs.Prelude.{ℕ, List, Option, Some, None, map, filter_map}
use Rattle.plant_base.specs.{State, control_lines_of, Batch, RecipeLine}
use Rattle.plant_base.specs.declared.refusal.Refusal.TheVariants.{UnknownBatch}
use Rattle.plant_base.specs.declared.rows.RecipeLine.TheVariants.{In, Out, Parameter, Phase}
use Rattle.plant_answers_genealogy.specs.{consumption, in_64_bits, production}
use Rattle.plant_answers.specs.BatchViews.{measured_line}
use Rattle.plant_questions.specs.{booked_of, Answer, BatchLines, BookedLine, Booking, MeasuredLine}
use Rattle.plant_questions.specs.declared.question.Answer.TheVariants as A

-- of an input what was consumed of its definition, of an output what was produced
abbrev pub booked_in : List Booking → List Booking → RecipeLine → ℕ
booked_in consumed produced (In def amount) = in_64_bits (booked_of def consumed)
booked_in consumed produced (Out def amount) = in_64_bits (booked_of def produced)
booked_in consumed produced (Parameter name value) = 0
booked_in consumed produced (Phase unit_procedure operation phase) = 0

abbrev pub booked_line : List Booking → List Booking → MeasuredLine → BookedLine
booked_line consumed produced l = record { measured = l; booked = booked_in consumed produced l.line.line }

-- by what the batch took and brought
abbrev pub booked_lines : State → List ℕ → List BookedLine
booked_lines s batch =
    map (booked_line (filter_map (consumption s batch) s.movements) (filter_map (production s batch) s.movements))
    (map (measured_line s.definitions) (control_lines_of s batch))

abbrev pub batch_lines : State → List ℕ → BatchLines
batch_lines s batch = record { batch = batch; lines = booked_lines s batch }

abbrev pub answer_batch_lines : State → Option Batch → Answer
answer_batch_lines s None = A.Unknown UnknownBatch
answer_batch_lines s (Some b) = A.BatchLines (batch_lines s b.id)
