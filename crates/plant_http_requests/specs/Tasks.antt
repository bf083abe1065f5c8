-- What an input asks for.
use Rattle.std.specs.Prelude.{◌≡◌, ℕ, ◌<◌, Bool, true, false, nat_lt, nat_le, List, length, take, drop, map, Option, Some, None, Result, Ok, Err, if◌then◌else◌, MatchBool}
use Rattle.httparse.specs.Grammar.{RequestHead}
use Rattle.httparse.specs.Spans.{name_and_value}
use Rattle.plant_base.specs.{OrderRow}
use Rattle.plant_orders.specs.{import, orders_of, CsvFault, CsvKind, ImportMetadata}
use Rattle.plant_orders.specs.declared.fault.CsvKind.TheVariants as csv
use Rattle.plant_text.specs.{line_of, text_checked, Line}
use Rattle.plant_text.specs.declared.LineFault.{LineFault}
use Rattle.plant_text.specs.declared.read.Line.TheVariants as L
use Rattle.plant_text.specs.declared.LineFault.TheVariants as line
use Rattle.plant_http_requests.specs.HeadEnd.{end_of_head}
use Rattle.plant_http_requests.specs.declared.reading.HeadEnd.{HeadEnd}
use Rattle.plant_http_requests.specs.declared.reading.HeadEnd.TheVariants as end
use Rattle.plant_http_requests.specs.Heads.{field_lines, Parsed}
use Rattle.plant_http_requests.specs.Steps.{refusal_of, refused_task, fails, request_step, under}
use Rattle.plant_http_requests.specs.declared.task.RequestTask.{RequestTask}
use Rattle.plant_http_requests.specs.declared.task.RequestTask.TheVariants.{Decided, Command, Check, OtherOperator, NoReference, Ahead, BadForm, BadFile, MemoryError}
use Rattle.plant_http_requests.specs.declared.task.BodyKind.{BodyKind}
use Rattle.plant_http_requests.specs.declared.task.BodyKind.TheVariants as content
use Rattle.plant_http_requests.specs.declared.task.BodyFields.{BodyFields}
use Rattle.plant_http_requests.specs.declared.task.ConditionalTask.{ConditionalTask}
use Rattle.plant_http_requests.specs.declared.task.HeadStep.{HeadStep}
use Rattle.plant_http_requests.specs.declared.task.HeadStep.TheVariants as S
use Rattle.plant_http_requests.specs.Senders.{of_sender}
use Rattle.plant_http_requests.specs.References.{referred, with_reference}
use Rattle.plant_http_requests.specs.InTime.{in_time}
use Rattle.plant_http_requests.specs.declared.task.Sender.{Sender}
use Rattle.plant_http_requests.specs.declared.profile.Terms.{Terms}
use Rattle.plant_http_requests.specs.declared.status.Status.TheVariants.{BadRequest, HeadTooLarge}

-- the most reads that a request takes
abbrev pub most_reads : ℕ
most_reads = 4096

-- ---- bodies

-- a question or a check is no command
abbrev pub command_task : Option Line → RequestTask
command_task None = BadForm
command_task (Some (L.Command e)) = Command e
command_task (Some (L.Question q)) = BadForm
command_task (Some (L.Check c)) = BadForm

-- what a body asks for that was read as a line; want of memory comes of nothing else
abbrev pub command_of : Result Line LineFault → RequestTask
command_of (Ok (L.Command e)) = Command e
command_of (Ok (L.Question q)) = BadForm
command_of (Ok (L.Check c)) = BadForm
command_of (Err line.BadForm) = BadForm
command_of (Err line.Memory) = MemoryError

abbrev pub file_task : ImportMetadata → Result (List OrderRow) CsvFault → RequestTask
file_task import_metadata (Ok orders) = Command (import import_metadata orders)
file_task import_metadata (Err fault) = BadFile fault

-- what the reader of order files reports as a fault: the file's, or want of memory
abbrev pub fault_task_of : CsvKind → CsvFault → RequestTask
fault_task_of csv.Memory fault = MemoryError
fault_task_of _ fault = BadFile fault

abbrev pub fault_task : CsvFault → RequestTask
fault_task fault = fault_task_of fault.kind fault

-- what a whole body says; the fields of the head that it needs come before its text
abbrev pub body_says : BodyKind → List ℕ → RequestTask
body_says (content.Command given) body = referred given (command_task (line_of body))
body_says (content.Check given) body = referred given (Check (text_checked body))
body_says (content.Orders import_metadata) body = file_task import_metadata (orders_of body)
body_says content.BadFields body = refusal_of BadRequest false

-- what it asks for: a command isn't taken that is another operator's, lacks a reference or is too far ahead of the machine's clock
abbrev pub body_task : Terms → Sender → BodyKind → List ℕ → RequestTask
body_task terms sender c body = in_time terms (with_reference terms.needs_references (of_sender sender (body_says c body)))

-- ---- heads

-- what a head and the bytes after it ask for
abbrev pub finish : Terms → HeadStep → List ℕ → ConditionalTask
finish terms (S.Decided decision) rest = under None (Decided decision)
finish terms (S.Body n fields sender) rest =
    if nat_le n (length rest) then under fields.condition (body_task terms sender fields.content (take n rest)) else refused_task BadRequest false

abbrev pub parsed_step : Terms → Option RequestHead → HeadStep
parsed_step terms None = fails BadRequest false
parsed_step terms (Some h) = request_step terms h.method h.target h.minor (map name_and_value h.fields)

-- what a head decides: its lines are counted before they are parsed
abbrev pub StepOf : Terms → List ℕ → HeadStep → Type 0
StepOf terms head step =
    MatchBool (nat_lt 32 (field_lines head)) (step ≡ fails HeadTooLarge false)
    ((p : Option RequestHead) × Parsed head p × (step ≡ parsed_step terms p))

abbrev pub HeadTask : Terms → List ℕ → List ℕ → ConditionalTask → Type 0
HeadTask terms head rest task = (step : HeadStep) × StepOf terms head step × (task ≡ finish terms step rest)

-- ---- inputs

abbrev pub EndTask : Terms → HeadEnd → List ℕ → Option ConditionalTask → Type 0
EndTask terms end.Nothing whole task = task ≡ None
EndTask terms end.Early whole task = task ≡ Some (refused_task BadRequest false)
EndTask terms end.TooLong whole task = task ≡ Some (refused_task HeadTooLarge false)
EndTask terms (end.Found n) whole task = (j : ConditionalTask) × (task ≡ Some j) × HeadTask terms (take n whole) (drop n whole) j

-- what an input asks for by these terms, and under which condition: none where it has no byte
abbrev pub TaskOf : Terms → List ℕ → Option ConditionalTask → Type 0
TaskOf terms whole task = EndTask terms (end_of_head whole) whole task

-- ---- want of memory

-- the task comes of what a body says
abbrev pub is_of_body : RequestTask → Bool
is_of_body (Decided decision) = false
is_of_body (Command e) = true
is_of_body (Check c) = true
is_of_body OtherOperator = true
is_of_body NoReference = true
is_of_body (Ahead most) = true
is_of_body BadForm = true
is_of_body (BadFile fault) = true
is_of_body MemoryError = false

-- a body was read for what it says; want of memory comes only where it says something
abbrev pub Reads : RequestTask → RequestTask → Type 0
Reads MemoryError task = is_of_body task ≡ true
Reads (Decided decision) task = Decided decision ≡ task
Reads (Command e) task = Command e ≡ task
Reads (Check c) task = Check c ≡ task
Reads OtherOperator task = OtherOperator ≡ task
Reads NoReference task = NoReference ≡ task
Reads (Ahead most) task = Ahead most ≡ task
Reads BadForm task = BadForm ≡ task
Reads (BadFile fault) task = BadFile fault ≡ task

-- the same of a task under a condition, which is known in any case
abbrev pub ReadsAs : ConditionalTask → ConditionalTask → Type 0
ReadsAs read task = (read.condition ≡ task.condition) × Reads read.task task.task

-- the head asks for a body of which so many bytes are too few
abbrev pub LacksBody : Terms → List ℕ → ℕ → Type 0
LacksBody terms head have = (size : ℕ) × (fields : BodyFields) × (sender : Sender) × StepOf terms head (S.Body size fields sender) × (have < size)

-- a head and the bytes after it ask for this, want of memory aside
abbrev pub HeadAsksFor : Terms → List ℕ → List ℕ → ConditionalTask → Type 0
HeadAsksFor terms head rest task = (j : ConditionalTask) × HeadTask terms head rest j × ReadsAs task j

-- the same of an option of tasks
abbrev pub ReadsSome : Option ConditionalTask → Option ConditionalTask → Type 0
ReadsSome None task = task ≡ None
ReadsSome (Some j) None = ⊥
ReadsSome (Some j) (Some task) = ReadsAs j task

-- the input asks for this, want of memory aside
abbrev pub AsksFor : Terms → List ℕ → Option ConditionalTask → Type 0
AsksFor terms whole task = (j : Option ConditionalTask) × TaskOf terms whole j × ReadsSome task j
