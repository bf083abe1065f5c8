-- The outcome of the keeper's replies, where a stop of an open keeper leaves the state that it represents.
use Rattle.std.proofs.Common.{◌≡◌, ℕ, Bool, true, false, Result, Ok, Err, refl, sym, subst, ap, ◌∙◌, inl, inr}
use Rattle.plant_base.specs.{State, Envelope}
use Rattle.plant_keeper.specs.{States, Executes, Asks, shuts}
use Rattle.plant_questions.specs.{Answer as DeskAnswer, DeskFault, Question, Reply}
use Rattle.plant_questions.specs.declared.reply.DeskFault.TheVariants.{Store, Memory, Shut}
use Rattle.plant_text.specs.{RepresentsDurably, ChecksAs, check_when_shut}
use Rattle.plant_text.proofs.RunCrashStates.{CrashStateIsOwn}
use Rattle.plant_http_requests.specs.{is_of_body, Reads, RequestTask}
use Rattle.plant_http_requests.specs.{BodyFormat}
use Rattle.plant_http_requests.specs.declared.task.HeadDecision.TheVariants as head
use Rattle.plant_http_requests.specs.declared.task.RequestTask.TheVariants as J
use Rattle.plant_json_in.specs.{ToCheck}
use Rattle.plant_json_in.specs.declared.checks.ToCheck.TheVariants as to_check
use Rattle.plant_text_checks.specs.{CheckAnswer}
use Rattle.plant_http.specs.{Out, fault_out, reply_out, answer_out, check_out, task_shut, is_silent_task, rendered, Executed, Asked, Checked, PerformsTask, TaskOutWhenShut, TaskDoneWhenShut}
use Rattle.plant_http.specs.declared.answer.Response.{Response}

pub command_performs : (k : ℕ) (s : State) (e : Envelope) (r : Result Reply DeskFault) (a : Response) (represents : States) (shut : Bool) (crash_states : States → Type 0)
    → CrashStateIsOwn represents shut crash_states → shut ≡ shuts r → Executes s represents crash_states e r → Executed r a → PerformsTask k s (J.Command e) (rendered a) represents shut crash_states
command_performs k s e (Ok r) a represents shut crash_states law is_live (is, represented) reported = inl (reported.parts ∙ ap reply_out is, (represented, law is_live _ represented), is_live)
command_performs k s e (Err Store) a represents shut crash_states law closed (same, either) reported = inr (Store, refl, reported.parts, (same, (closed, either)), inr (same, either))
command_performs k s e (Err Memory) a represents shut crash_states law is_live same reported = inr (Memory, refl, reported.parts, (same, is_live), (same, law is_live s same))
command_performs k s e (Err Shut) a represents shut crash_states law is_live none reported = absurd none

pub question_performs : (k : ℕ) (s : State) (q : Question) (body_format : BodyFormat) (silent : Bool) (r : Result DeskAnswer DeskFault) (out : Out) (represents : States) (shut : Bool) (crash_states : States → Type 0)
    → CrashStateIsOwn represents shut crash_states → shut ≡ false → Asks k s represents q r → Asked body_format r out → PerformsTask k s (J.Decided (head.Ask q body_format silent)) out represents shut crash_states
question_performs k s q body_format silent (Ok a) out represents shut crash_states law is_live (is, same) (inl e) = inl (e ∙ ap (answer_out body_format) is, (same, law is_live s same), is_live)
question_performs k s q body_format silent (Ok a) out represents shut crash_states law is_live (is, same) (inr e) = inr (Memory, refl, e, (same, is_live), (same, law is_live s same))
question_performs k s q body_format silent (Err Store) out represents shut crash_states law is_live same e = inr (Store, refl, e, (same, is_live), inl (same, law is_live s same))
question_performs k s q body_format silent (Err Memory) out represents shut crash_states law is_live same e = inr (Memory, refl, e, (same, is_live), (same, law is_live s same))
question_performs k s q body_format silent (Err Shut) out represents shut crash_states law is_live none e = absurd none

pub check_performs : (k : ℕ) (s : State) (c : ToCheck) (r : Result CheckAnswer DeskFault) (out : Out) (represents : States) (shut : Bool) (crash_states : States → Type 0)
    → CrashStateIsOwn represents shut crash_states → shut ≡ false → ChecksAs s represents c r → Checked r out → PerformsTask k s (J.Check c) out represents shut crash_states
check_performs k s c (Ok a) out represents shut crash_states law is_live (is, same) (inl e) = inl (e ∙ ap check_out is, (same, law is_live s same), is_live)
check_performs k s c (Ok a) out represents shut crash_states law is_live (is, same) (inr e) = inr (Memory, refl, e, (same, is_live), (same, law is_live s same))
check_performs k s c (Err Store) out represents shut crash_states law is_live (is_command, same) e = inr (Store, refl, e, (same, (is_command, is_live)), inl (same, law is_live s same))
check_performs k s c (Err Memory) out represents shut crash_states law is_live (is_command, same) e = inr (Memory, refl, e, (same, is_live), (same, law is_live s same))
check_performs k s c (Err Shut) out represents shut crash_states law is_live none e = absurd none

pub check_shut : (c : ToCheck) (r : Result CheckAnswer DeskFault) (out : Out) → r ≡ check_when_shut c → Checked r out → TaskDoneWhenShut (J.Check c) out
check_shut (to_check.Command e) r out is made = subst (λ (r : Result CheckAnswer DeskFault). Checked r out) is made
check_shut (to_check.BadForm p) r out is made = subst (λ (r : Result CheckAnswer DeskFault). Checked r out) is made

-- ---- want of memory in reading a body

no_memory : (k : ℕ) (s : State) (j : RequestTask) (out : Out) (represents : States) (shut : Bool) (crash_states : States → Type 0) → is_of_body j ≡ true → out ≡ fault_out Memory
    → RepresentsDurably represents crash_states s → shut ≡ false → PerformsTask k s j out represents shut crash_states
no_memory k s (J.Decided decision) out represents shut crash_states h e alone is_live = absurd (cc)
no_memory k s (J.Command c) out represents shut crash_states h e alone is_live = inr (Memory, refl, e, (alone.0, is_live), alone)
no_memory k s (J.Check c) out represents shut crash_states h e alone is_live = inr (Memory, refl, e, (alone.0, is_live), alone)
no_memory k s J.OtherOperator out represents shut crash_states h e alone is_live = inr (Memory, refl, e, (alone.0, is_live), alone)
no_memory k s J.NoReference out represents shut crash_states h e alone is_live = inr (Memory, refl, e, (alone.0, is_live), alone)
no_memory k s (J.Ahead most) out represents shut crash_states h e alone is_live = inr (Memory, refl, e, (alone.0, is_live), alone)
no_memory k s J.BadForm out represents shut crash_states h e alone is_live = inr (Memory, refl, e, (alone.0, is_live), alone)
no_memory k s (J.BadFile f) out represents shut crash_states h e alone is_live = inr (Memory, refl, e, (alone.0, is_live), alone)
no_memory k s J.MemoryError out represents shut crash_states h e alone is_live = absurd (cc)

memory_performs : (k : ℕ) (s : State) (j : RequestTask) (out : Out) (represents : States) (shut : Bool) (crash_states : States → Type 0) → is_of_body j ≡ true
    → PerformsTask k s J.MemoryError out represents shut crash_states → PerformsTask k s j out represents shut crash_states
memory_performs k s j out represents shut crash_states h (inl (e, alone, is_live)) = no_memory k s j out represents shut crash_states h e alone is_live
memory_performs k s j out represents shut crash_states h (inr (Store, may, e, left, alone)) = absurd left.1
memory_performs k s j out represents shut crash_states h (inr (Memory, may, e, left, alone)) = no_memory k s j out represents shut crash_states h e alone left.1
memory_performs k s j out represents shut crash_states h (inr (Shut, may, e, left, alone)) = absurd left

-- a task that was read is the one that is asked for, want of memory aside
pub reads_performs : (k : ℕ) (s : State) (task j : RequestTask) (out : Out) (represents : States) (shut : Bool) (crash_states : States → Type 0) → Reads task j
    → PerformsTask k s task out represents shut crash_states → PerformsTask k s j out represents shut crash_states
reads_performs k s J.MemoryError j out represents shut crash_states h p = memory_performs k s j out represents shut crash_states h p
reads_performs k s _ j out represents shut crash_states h p = rw (sym h) p

body_is_loud : (j : RequestTask) → is_of_body j ≡ true → false ≡ is_silent_task j
body_is_loud (J.Decided decision) h = absurd (cc)
body_is_loud _ h = refl

pub reads_silent : (task j : RequestTask) → Reads task j → is_silent_task task ≡ is_silent_task j
reads_silent J.MemoryError j h = body_is_loud j h
reads_silent _ j h = ap is_silent_task h

pub reads_shut : (task j : RequestTask) (out : Out) → Reads task j → TaskDoneWhenShut task out → TaskOutWhenShut j out
reads_shut J.MemoryError j out h e = inr (h, e)
reads_shut (J.Check (to_check.BadForm p)) j out h (inl e) = inl (e ∙ ap task_shut h)
reads_shut (J.Check (to_check.BadForm p)) j out h (inr e) = inr (ap is_of_body (sym h), e)
reads_shut (J.Check (to_check.Command c)) j out h e = inl (e ∙ ap task_shut h)
reads_shut (J.Decided decision) j out h e = inl (e ∙ ap task_shut h)
reads_shut (J.Command c) j out h e = inl (e ∙ ap task_shut h)
reads_shut J.OtherOperator j out h e = inl (e ∙ ap task_shut h)
reads_shut J.NoReference j out h e = inl (e ∙ ap task_shut h)
reads_shut (J.Ahead most) j out h e = inl (e ∙ ap task_shut h)
reads_shut J.BadForm j out h e = inl (e ∙ ap task_shut h)
reads_shut (J.BadFile f) j out h e = inl (e ∙ ap task_shut h)
