-- A task under a condition is the task where the condition is met, and nothing where it isn't.
use Rattle.std.proofs.Common.{◌≡◌, ◌∙◌, ℕ, Bool, true, false, Option, Some, None, Ok, Err, refl, sym, ap, inl, inr}
use Rattle.std.specs.Prelude.{◌||◌, is_some, if◌then◌else◌}
use Rattle.plant_base.specs.{State, Envelope}
use Rattle.plant_answers.specs.{answer}
use Rattle.plant_keeper.specs.{States, Asks}
use Rattle.plant_questions.specs.{Answer as DeskAnswer, DeskFault, Question}
use Rattle.plant_questions.specs.declared.question.Question.TheVariants as Q
use Rattle.plant_questions.specs.declared.reply.DeskFault.TheVariants.{Store, Memory, Shut}
use Rattle.plant_text.specs.{RepresentsDurably, Entry, nothing, command, question, after}
use Rattle.plant_text.proofs.RunCrashStates.{CrashStateIsOwn}
use Rattle.plant_http_requests.specs.{ConditionalTask, Figures, Presentation, Reads, ReadsAs, RequestTask, under}
use Rattle.plant_http_requests.specs.declared.task.HeadDecision.TheVariants as head
use Rattle.plant_http_requests.specs.declared.task.RequestTask.TheVariants as J
use Rattle.plant_http.specs.{DoneUnder, DoneWhenShut, FailsAt, Out, OutUnder, OutWhenShut, Performs, PerformsTask, TellsPosition, TellsSeq, entry_of, entry_of_task, fault_out, health_out, is_met, is_silent, may_fail, position_in, seq_in_answer, seq_out, task_out}
use Rattle.plant_http.specs.declared.position.Position.{Position}
use Rattle.plant_http.proofs.TaskPerforms.{reads_performs, reads_silent, reads_shut}

-- ---- the number of accepted commands

pub answer_tells : (k : ℕ) (s : State) (represents : States) (a : DeskAnswer) → Asks k s represents Q.Desk (Ok a) → TellsSeq s represents (seq_in_answer a)
unfolding answer
answer_tells k s represents a (is, same) = rw is (refl, same)

-- ---- how far a keeper has come

-- a fault at one of the questions
pub fault_tells : (k : ℕ) (s : State) (q : Question) (represents : States) (f : DeskFault) → Asks k s represents q (Err f) → TellsPosition k s represents (Err f)
fault_tells k s q represents Store still = still
fault_tells k s q represents Memory still = still
fault_tells k s q represents Shut none = none

pub answers_tell : (k : ℕ) (s : State) (represents : States) (desk moment : DeskAnswer) → desk ≡ answer k s Q.Desk → Asks k s represents Q.Moment (Ok moment)
    → TellsPosition k s represents (position_in desk moment)
unfolding answer
answers_tell k s represents desk moment so (is, same) = rw (so, is) (refl, same)

pub position_performs : (k : ℕ) (s : State) (presentation : Presentation) (figures : Figures) (silent : Bool) (p : Position) (out : Out) (represents : States) (shut : Bool)
    (crash_states : States → Type 0) → CrashStateIsOwn represents shut crash_states → shut ≡ false → TellsPosition k s represents (Ok p)
    → out ≡ health_out presentation figures p.schema p.seq p.at → PerformsTask k s (J.Decided (head.Health presentation figures silent)) out represents shut crash_states
position_performs k s presentation figures silent p out represents shut crash_states law is_live (is, same) made =
    inl (made ∙ ap (λ (p : Position). health_out presentation figures p.schema p.seq p.at) is, (same, law is_live s same), is_live)

pub position_fails : (k : ℕ) (s : State) (presentation : Presentation) (figures : Figures) (silent : Bool) (f : DeskFault) (out : Out) (represents : States) (shut : Bool)
    (crash_states : States → Type 0) → CrashStateIsOwn represents shut crash_states → shut ≡ false → TellsPosition k s represents (Err f) → out ≡ fault_out f
    → PerformsTask k s (J.Decided (head.Health presentation figures silent)) out represents shut crash_states
position_fails k s presentation figures silent Store out represents shut crash_states law is_live still made = inr (Store, refl, made, (still, is_live), inl (still, law is_live s still))
position_fails k s presentation figures silent Memory out represents shut crash_states law is_live still made = inr (Memory, refl, made, (still, is_live), (still, law is_live s still))
position_fails k s presentation figures silent Shut out represents shut crash_states law is_live none made = absurd none

-- ---- what is done

pub met_performs : (k : ℕ) (s : State) (t : ConditionalTask) (out : Out) (represents : States) (shut : Bool) (crash_states : States → Type 0) → is_met t.condition s ≡ true
    → PerformsTask k s t.task out represents shut crash_states → Performs k s t out represents shut crash_states
met_performs k s t out represents shut crash_states met (inl (is, alone, is_live)) = inl (rw met is, rw met alone, is_live)
met_performs k s t out represents shut crash_states met (inr (f, may, is, left, at_fault)) = inr (f, entry_of_task t.task, inl (met, may, refl), is, left, at_fault)

-- the answer is the number, and the keeper stays
abbrev Stays : State → Out → States → Bool → (States → Type 0) → Type 0
Stays s out represents shut crash_states = (out ≡ seq_out s.seq) × RepresentsDurably represents crash_states s × (shut ≡ false)

unmet_performs : (k : ℕ) (s : State) (t : ConditionalTask) (out : Out) (represents : States) (shut : Bool) (crash_states : States → Type 0) → is_met t.condition s ≡ false
    → Stays s out represents shut crash_states → Performs k s t out represents shut crash_states
unmet_performs k s t out represents shut crash_states unmet (is, alone, is_live) = inl (rw unmet is, rw unmet alone, is_live)

-- a fault as the keeper was asked for the number
pub number_fails : (k : ℕ) (s : State) (n : ℕ) (f : DeskFault) (task : RequestTask) (out : Out) (represents : States) (shut : Bool) (crash_states : States → Type 0)
    → CrashStateIsOwn represents shut crash_states → shut ≡ false → TellsSeq s represents (Err f) → out ≡ fault_out f → Performs k s (under (Some n) task) out represents shut crash_states
number_fails k s n Store task out represents shut crash_states law is_live still made = inr (Store, question Q.Desk, inr (refl, refl), made, (still, is_live), inl (still, law is_live s still))
number_fails k s n Memory task out represents shut crash_states law is_live still made = inr (Memory, question Q.Desk, inr (refl, refl), made, (still, is_live), (still, law is_live s still))
number_fails k s n Shut task out represents shut crash_states law is_live none made = absurd none

-- ---- want of memory in reading a body

reads_by : (k : ℕ) (s : State) (t j : ConditionalTask) (out : Out) (represents : States) (shut : Bool) (crash_states : States → Type 0) (met : Bool) → is_met t.condition s ≡ met → is_met j.condition s ≡ met
    → Reads t.task j.task → (out ≡ (if met then task_out k s t.task else seq_out s.seq)) → RepresentsDurably represents crash_states (after s (if met then entry_of_task t.task else nothing)) → shut ≡ false
    → Performs k s j out represents shut crash_states
reads_by k s t j out represents shut crash_states true met so reads is alone is_live =
    met_performs k s j out represents shut crash_states so (reads_performs k s t.task j.task out represents shut crash_states reads (inl (is, alone, is_live)))
reads_by k s t j out represents shut crash_states false unmet so reads is alone is_live = unmet_performs k s j out represents shut crash_states so (is, alone, is_live)

pub conditional_performs : (k : ℕ) (s : State) (t j : ConditionalTask) (out : Out) (represents : States) (shut : Bool) (crash_states : States → Type 0) → ReadsAs t j
    → Performs k s t out represents shut crash_states → Performs k s j out represents shut crash_states
conditional_performs k s t j out represents shut crash_states (same, reads) (inl (is, alone, is_live)) =
    reads_by k s t j out represents shut crash_states (is_met t.condition s) refl (ap (λ c. is_met c s) (sym same)) reads is alone is_live
conditional_performs k s t j out represents shut crash_states (same, reads) (inr (f, e, inl (met, may, at), is, left, at_fault)) =
    let so : is_met j.condition s ≡ true = rw same at met in
    met_performs k s j out represents shut crash_states so (reads_performs k s t.task j.task out represents shut crash_states reads (inr (f, may, is, rw at at left, rw at at at_fault)))
conditional_performs k s t j out represents shut crash_states (same, reads) (inr (f, e, inr (asks, at), is, left, at_fault)) = inr (f, e, inr (rw same at asks, at), is, left, at_fault)

pub conditional_silent : (t j : ConditionalTask) → ReadsAs t j → is_silent t ≡ is_silent j
conditional_silent t j (same, reads) = reads_silent t.task j.task reads

shut_by : (a b : Option ℕ) (task j : RequestTask) (out : Out) → a ≡ b → Reads task j → DoneUnder a task out → OutUnder b j out
shut_by None None task j out same reads done = reads_shut task j out reads done
shut_by (Some n) (Some m) task j out same reads done = done
shut_by None (Some m) task j out same reads done = absurd (cc)
shut_by (Some n) None task j out same reads done = absurd (cc)

pub conditional_shut : (t j : ConditionalTask) (out : Out) → ReadsAs t j → DoneWhenShut t out → OutWhenShut j out
conditional_shut t j out (same, reads) done = shut_by t.condition j.condition t.task j.task out same reads done

-- ---- where a fault came

or_true : (b : Bool) → (b || true) ≡ true
or_true true = refl
or_true false = refl

-- only a task that may fail fails
pub fails_may : (s : State) (t : ConditionalTask) (e : Entry) → FailsAt s t e → may_fail t ≡ true
fails_may s t e (inl (met, may, at)) = rw may (or_true (is_some t.condition))
fails_may s t e (inr (asks, at)) = rw asks refl

-- a fault at a command came at the task
pub command_at : (s : State) (t : ConditionalTask) (c : Envelope) → FailsAt s t (command c) → entry_of s t ≡ command c
command_at s t c (inl (met, may, at)) = rw met (sym at)
command_at s t c (inr (asks, at)) = absurd (cc)
