-- The outcome of a task over a store that was just opened.
use Rattle.std.specs.Prelude.{ℕ, List, [], Bool, Option, Result}
use Rattle.sqlite.specs.State as store
use Rattle.plant_orders.specs.{ImportMetadata}
use Rattle.plant_trace.specs.{Direction}
use Rattle.plant_trace.specs.declared.node.Node.TheVariants as node
use Rattle.plant_questions.specs.{Question}
use Rattle.plant_questions.specs.declared.question.Question.TheVariants as question
use Rattle.desk_cli.specs.{Task}
use Rattle.desk_cli.specs.declared.meaning.Task.TheVariants as task
use Rattle.desk_program.specs.AnswersWritten.{AskGives}
use Rattle.desk_program.specs.ImportOutcomes.{ImportGives}
use Rattle.desk_program.specs.TaskOutput.{PrintsLine, IsReady, IsGoodLine}
use Rattle.desk_program.specs.Reports.{ReportGives, ready_line, good_line}
use Rattle.desk_program.specs.Runs.{RunGives}
use Rattle.desk_program.specs.declared.fault.ProgramFault.{ProgramFault}

-- what `trace` and `record` ask
abbrev pub trace_question : Direction → List ℕ → Question
trace_question direction lot = question.Trace direction (node.Lot lot)

abbrev pub record_question : List ℕ → Question
record_question batch = question.Batch batch

-- orders of a file have an empty note
abbrev pub metadata_of_import : ℕ → List ℕ → Option (List ℕ) → ImportMetadata
metadata_of_import at by reference = record { stamp = record { at = at; by = by; note = [] }; reference = reference }

-- The outcome of a task over a store, by the store as it was handed over and as it was given back, by what was read, and by
-- what standard output held before and after it.
abbrev pub TaskGives : store.State → store.State → Task → Option (List ℕ) → Option (List ℕ) → Option (List ℕ) → Option (List ℕ) → Result Bool ProgramFault → Type 0
TaskGives before after task.Init unread left old new done = PrintsLine IsReady old new done × ReportGives ready_line before after old new done
TaskGives before after task.Run unread left old new done = RunGives before after unread left old new done
TaskGives before after (task.Import at by reference) unread left old new done = ImportGives before after (metadata_of_import at by reference) unread old new done
TaskGives before after (task.Trace direction lot) unread left old new done = AskGives before after (trace_question direction lot) old new done
TaskGives before after (task.Record batch) unread left old new done = AskGives before after (record_question batch) old new done
TaskGives before after task.Verify unread left old new done = PrintsLine IsGoodLine old new done × ReportGives good_line before after old new done
