-- What serving a request does.
use Rattle.std.specs.Prelude.{◌≡◌, ℕ, ◌≤◌, Bool, true, false, ◌||◌, List, [], length, Option, Some, None, is_some, if◌then◌else◌, ◌⊎◌, Result, Ok, Err, ⊤}
use Rattle.std.specs.Io.KnownBytes.{Appends, Keeps}
use Rattle.httpdate.specs.declared.date.HttpDate.{HttpDate}
use Rattle.plant_base.specs.{State}
use Rattle.plant_keeper.specs.{States}
use Rattle.plant_questions.specs.{Answer as DeskAnswer, DeskFault}
use Rattle.plant_questions.specs.declared.question.Answer.TheVariants as A
use Rattle.plant_questions.specs.declared.question.Question.TheVariants as Q
use Rattle.plant_questions.specs.declared.reply.DeskFault.TheVariants as fault
use Rattle.plant_text.specs.{RepresentsDurably, CrashStatesAtFault, Entry, nothing, command, question, check, after, CrashStatesOfFault, AppendsPrefix}
use Rattle.plant_json_in.specs.declared.checks.ToCheck.TheVariants as to_check
use Rattle.plant_http_requests.specs.{ConditionalTask, HeadDecision, InputFault, RequestTask, Terms, TaskOf, is_of_body}
use Rattle.plant_http_requests.specs.declared.reading.InputFault.TheVariants as input
use Rattle.plant_http_requests.specs.declared.task.HeadDecision.TheVariants as head
use Rattle.plant_http_requests.specs.declared.task.RequestTask.TheVariants as J
use Rattle.plant_http.specs.Answers.{Out, out_of, task_out, fault_out, task_shut, is_met, is_silent, code_of, dated, answer_bytes}
use Rattle.plant_http.specs.declared.position.Position.{Position}
use Rattle.plant_http.specs.declared.serve.Served.{Served}
use Rattle.plant_http.specs.declared.serve.Served.TheVariants.{Answered, Nothing}
use Rattle.plant_http.specs.declared.serve.ServeFault.{ServeFault}
use Rattle.plant_http.specs.declared.serve.ServeFault.TheVariants as end

-- what the decision of a head is to the keeper
abbrev pub entry_of_decision : HeadDecision → Entry
entry_of_decision (head.Refuse status allow silent) = nothing
entry_of_decision (head.Ask q body_format silent) = question q
entry_of_decision (head.Operator operator silent) = nothing
entry_of_decision (head.Health presentation figures silent) = question Q.Desk
entry_of_decision (head.Resource resource is_current silent) = nothing

-- what a task is to it
abbrev pub entry_of_task : RequestTask → Entry
entry_of_task (J.Decided decision) = entry_of_decision decision
entry_of_task (J.Command e) = command e
entry_of_task (J.Check c) = check c
entry_of_task J.OtherOperator = nothing
entry_of_task J.NoReference = nothing
entry_of_task (J.Ahead most) = nothing
entry_of_task J.BadForm = nothing
entry_of_task (J.BadFile f) = nothing
entry_of_task J.MemoryError = nothing

-- what a task under a condition is to it as it represents s
abbrev pub entry_of : State → ConditionalTask → Entry
entry_of s t = if is_met t.condition s then entry_of_task t.task else nothing

-- whether the keeper is asked for what a head decides
abbrev pub is_asked : HeadDecision → Bool
is_asked (head.Refuse status allow silent) = false
is_asked (head.Ask q body_format silent) = true
is_asked (head.Operator operator silent) = false
is_asked (head.Health presentation figures silent) = true
is_asked (head.Resource resource is_current silent) = false

-- whether a fault may be answered instead of the task: the keeper is asked, or memory is taken for what a body says
abbrev pub task_may_fail : RequestTask → Bool
task_may_fail (J.Decided decision) = is_asked decision
task_may_fail _ = true

-- the same of a task under a condition, for which the keeper is asked
abbrev pub may_fail : ConditionalTask → Bool
may_fail t = is_some t.condition || task_may_fail t.task

-- The keeper represented s. What is answered to the task under no condition, what the keeper represents now, and what a stop leaves: the
-- definitions' answer and the state after the task, or a fault and what it leaves.
abbrev pub PerformsTask : ℕ → State → RequestTask → Out → States → Bool → (States → Type 0) → Type 0
PerformsTask k s task out represents shut crash_states =
    ((out ≡ task_out k s task) × RepresentsDurably represents crash_states (after s (entry_of_task task)) × (shut ≡ false))
    ⊎ ((f : DeskFault) × (task_may_fail task ≡ true) × (out ≡ fault_out f)
    × CrashStatesOfFault f s (entry_of_task task) represents shut crash_states × CrashStatesAtFault f represents crash_states s (entry_of_task task))

-- at which entry a fault comes: at the task, where its condition is met, or at the question for the number before it
abbrev pub FailsAt : State → ConditionalTask → Entry → Type 0
FailsAt s t e =
    ((is_met t.condition s ≡ true) × (task_may_fail t.task ≡ true) × (e ≡ entry_of_task t.task))
    ⊎ ((is_some t.condition ≡ true) × (e ≡ question Q.Desk))

-- The same under its condition: where that isn't met, the answer is the keeper's number, and the keeper represents what it represented.
abbrev pub Performs : ℕ → State → ConditionalTask → Out → States → Bool → (States → Type 0) → Type 0
Performs k s t out represents shut crash_states =
    ((out ≡ out_of k s t) × RepresentsDurably represents crash_states (after s (entry_of s t)) × (shut ≡ false))
    ⊎ ((f : DeskFault) × (e : Entry) × FailsAt s t e × (out ≡ fault_out f)
    × CrashStatesOfFault f s e represents shut crash_states × CrashStatesAtFault f represents crash_states s e)

-- the number of accepted commands that an answer says
abbrev pub seq_in_answer : DeskAnswer → Result ℕ DeskFault
seq_in_answer (A.Desk schema seq) = Ok seq
seq_in_answer _ = Err fault.Store

-- the schema, the number and the moment of the last accepted command that two answers say
abbrev pub position_in : DeskAnswer → DeskAnswer → Result Position DeskFault
position_in (A.Desk schema seq) (A.Moment at) = Ok (record { schema = schema; seq = seq; at = at })
position_in _ _ = Err fault.Store

-- a keeper of schema k that represented s was asked for them
abbrev pub TellsPosition : ℕ → State → States → Result Position DeskFault → Type 0
TellsPosition k s represents (Ok p) = (p ≡ record { schema = k; seq = s.seq; at = s.at }) × represents s
TellsPosition k s represents (Err fault.Store) = represents s
TellsPosition k s represents (Err fault.Memory) = represents s
TellsPosition k s represents (Err fault.Shut) = ⊥

-- a keeper that represented s was asked for the number
abbrev pub TellsSeq : State → States → Result ℕ DeskFault → Type 0
TellsSeq s represents (Ok seq) = (seq ≡ s.seq) × represents s
TellsSeq s represents (Err fault.Store) = represents s
TellsSeq s represents (Err fault.Memory) = represents s
TellsSeq s represents (Err fault.Shut) = ⊥

-- nothing was executed, and nothing was written
pub record Untouched (s : State) (old new : Option (List ℕ)) (represents : States) (shut : Bool) (crash_states : States → Type 0) : Type 0 where
  pub state : RepresentsDurably represents crash_states s
  pub is_live : shut ≡ false
  pub text : Keeps old new

-- The request was answered, wholly or by a prefix: its task was done, and the text of the answer was written so.
abbrev pub AnswersBy : Terms → (Out → List ℕ → Type 0) → ℕ → State → List ℕ → States → Bool → (States → Type 0) → Type 0
AnswersBy terms Wrote k s whole represents shut crash_states =
    (task : ConditionalTask) × TaskOf terms whole (Some task) × (out : Out) × Performs k s task out represents shut crash_states × Wrote out (answer_bytes (dated terms) (is_silent task) out)

-- how a server ended by these terms with the request of an input, where the keeper represented s
abbrev pub Serves : Terms → ℕ → State → List ℕ → Option (List ℕ) → Option (List ℕ) → States → Bool → (States → Type 0) → Result Served ServeFault → Type 0
Serves terms k s whole old new represents shut crash_states (Ok Nothing) = (whole ≡ []) × Untouched s old new represents shut crash_states
Serves terms k s whole old new represents shut crash_states (Ok (Answered code)) =
    AnswersBy terms (λ out text. (code ≡ code_of out.status) × Appends old new text) k s whole represents shut crash_states
Serves terms k s whole old new represents shut crash_states (Err end.Write) = AnswersBy terms (λ out text. AppendsPrefix old new text) k s whole represents shut crash_states
Serves terms k s whole old new represents shut crash_states (Err end.Read) = Untouched s old new represents shut crash_states
Serves terms k s whole old new represents shut crash_states (Err end.Endless) = Untouched s old new represents shut crash_states × (4096 ≤ length whole)
Serves terms k s whole old new represents shut crash_states (Err end.Memory) = Untouched s old new represents shut crash_states

-- the keeper wasn't asked and nothing was written: the input had no byte, or the request couldn't be read
abbrev pub IfUnasked : Result Served ServeFault → Type 0 → Type 0
IfUnasked (Ok Nothing) P = P
IfUnasked (Ok (Answered code)) P = ⊤
IfUnasked (Err end.Write) P = ⊤
IfUnasked (Err end.Read) P = P
IfUnasked (Err end.Endless) P = P
IfUnasked (Err end.Memory) P = P

-- ---- a keeper that is shut

-- what is answered to a task under no condition, want of memory aside
abbrev pub TaskOutWhenShut : RequestTask → Out → Type 0
TaskOutWhenShut task out = (out ≡ task_shut task) ⊎ ((is_of_body task ≡ true) × (out ≡ fault_out fault.Memory))

-- the same of a task that was read; only the text of an answer that no keeper gives takes memory still
abbrev pub TaskDoneWhenShut : RequestTask → Out → Type 0
TaskDoneWhenShut (J.Check (to_check.BadForm p)) out = (out ≡ task_shut (J.Check (to_check.BadForm p))) ⊎ (out ≡ fault_out fault.Memory)
TaskDoneWhenShut task out = out ≡ task_shut task

-- under a condition it is the fault 3, as for the question for the number
abbrev pub OutUnder : Option ℕ → RequestTask → Out → Type 0
OutUnder None task out = TaskOutWhenShut task out
OutUnder (Some n) task out = out ≡ fault_out fault.Shut

abbrev pub DoneUnder : Option ℕ → RequestTask → Out → Type 0
DoneUnder None task out = TaskDoneWhenShut task out
DoneUnder (Some n) task out = out ≡ fault_out fault.Shut

abbrev pub OutWhenShut : ConditionalTask → Out → Type 0
OutWhenShut t out = OutUnder t.condition t.task out

abbrev pub DoneWhenShut : ConditionalTask → Out → Type 0
DoneWhenShut t out = DoneUnder t.condition t.task out

abbrev pub AnswersShut : Terms → (Out → List ℕ → Type 0) → List ℕ → Type 0
AnswersShut terms Wrote whole = (task : ConditionalTask) × TaskOf terms whole (Some task) × (out : Out) × OutWhenShut task out × Wrote out (answer_bytes (dated terms) (is_silent task) out)

-- how it ended by a keeper that is shut
abbrev pub ServesShut : Terms → List ℕ → Option (List ℕ) → Option (List ℕ) → Result Served ServeFault → Type 0
ServesShut terms whole old new (Ok Nothing) = (whole ≡ []) × Keeps old new
ServesShut terms whole old new (Ok (Answered code)) = AnswersShut terms (λ out text. (code ≡ code_of out.status) × Appends old new text) whole
ServesShut terms whole old new (Err end.Write) = AnswersShut terms (λ out text. AppendsPrefix old new text) whole
ServesShut terms whole old new (Err end.Read) = Keeps old new
ServesShut terms whole old new (Err end.Endless) = Keeps old new × (4096 ≤ length whole)
ServesShut terms whole old new (Err end.Memory) = Keeps old new

-- ---- a task that is there

-- how doing a task and writing its answer ended
abbrev pub Answers : Option HttpDate → ℕ → State → ConditionalTask → Option (List ℕ) → Option (List ℕ) → States → Bool → (States → Type 0) → Result Served ServeFault → Type 0
Answers date k s task old new represents shut crash_states (Ok (Answered code)) =
    (out : Out) × Performs k s task out represents shut crash_states × (code ≡ code_of out.status) × Appends old new (answer_bytes date (is_silent task) out)
Answers date k s task old new represents shut crash_states (Err end.Write) =
    (out : Out) × Performs k s task out represents shut crash_states × AppendsPrefix old new (answer_bytes date (is_silent task) out)
Answers date k s task old new represents shut crash_states _ = ⊥

-- the same by a keeper that is shut
abbrev pub AnswersTaskShut : Option HttpDate → ConditionalTask → Option (List ℕ) → Option (List ℕ) → Result Served ServeFault → Type 0
AnswersTaskShut date task old new (Ok (Answered code)) = (out : Out) × DoneWhenShut task out × (code ≡ code_of out.status) × Appends old new (answer_bytes date (is_silent task) out)
AnswersTaskShut date task old new (Err end.Write) = (out : Out) × DoneWhenShut task out × AppendsPrefix old new (answer_bytes date (is_silent task) out)
AnswersTaskShut date task old new _ = ⊥

abbrev pub end_of : InputFault → ServeFault
end_of input.Read = end.Read
end_of input.Endless = end.Endless
end_of input.Memory = end.Memory
