-- What bodies say, and that an input asks for one thing.
use Rattle.std.proofs.Common.{◌≡◌, ℕ, Bool, true, false, List, [], drop, take, Option, Some, None, Result, Ok, Err, refl, sym, ap, ◌∙◌, nat_lt, IfOk, IsErrOf, ◌↔◌, MatchBool}
use Rattle.std.specs.Prelude.{◌∷◌, codes, if◌then◌else◌, is_some}
use Rattle.std.specs.Result.{result_ok}
use Rattle.serde_json.specs.Data.{Data}
use Rattle.serde_json.specs.Find.{as_object, get}
use Rattle.httparse.specs.Grammar.{RequestHead}
use Rattle.httparse.proofs.GrammarLemmas.{request_unique}
use Rattle.plant_base.specs.{Envelope, OrderRow}
use Rattle.plant_orders.specs.{FailsAs, CsvFault, CsvKind, ImportMetadata}
use Rattle.plant_orders.specs.declared.fault.CsvKind.TheVariants as csv
use Rattle.plant_questions.specs.{Question}
use Rattle.plant_text.specs.{asked_by, question_line, checked_by, kind_at, Line, line_of, line_says, kind_around, object_says, text_checked, value_in, value_says}
use Rattle.plant_text.specs.declared.LineFault.{LineFault}
use Rattle.plant_text.specs.declared.read.Line.TheVariants as L
use Rattle.plant_text.specs.declared.LineFault.TheVariants as line
use Rattle.plant_http_requests.specs.declared.reading.HeadEnd.{HeadEnd}
use Rattle.plant_http_requests.specs.declared.reading.HeadEnd.TheVariants as end
use Rattle.plant_http_requests.specs.{end_of_head, field_lines, Parsed, fails, command_task, command_of, file_task, fault_task_of, is_of_body, Reads, EndTask, TaskOf, parsed_step, finish}
use Rattle.plant_json_in.specs.{Around, AskedKind, Field, NodeKind, fields_of, node_in, question_in, FormatError, ShapeError, ◌>>=◌, object}
use Rattle.plant_json_in.specs.declared.format_errors.FormatError.TheVariants as format_error
use Rattle.plant_json_in.specs.declared.format_errors.ShapeError.TheVariants as shape_error
use Rattle.plant_json_in.specs.declared.members.Member.TheVariants as m
use Rattle.plant_json_in.specs.declared.question_tables.AskedKind.TheVariants as asked
use Rattle.plant_json_in.specs.declared.question_tables.QuestionKind.TheVariants as q
use Rattle.plant_json_in.specs.{check_of, checked_as, command_among, command_of as command_of_value, ToCheck}
use Rattle.plant_json_in.specs.declared.checks.ToCheck.TheVariants as to_check
use Rattle.plant_http_requests.specs.declared.task.ConditionalTask.{ConditionalTask}
use Rattle.plant_http_requests.specs.declared.task.RequestTask.TheVariants as J
use Rattle.plant_http_requests.specs.declared.task.HeadStep.{HeadStep}
use Rattle.plant_http_requests.specs.declared.profile.Terms.{Terms}
use Rattle.plant_http_requests.specs.declared.status.Status.TheVariants.{HeadTooLarge}

command_is_of_body : (o : Option Line) → is_of_body (command_task o) ≡ true
command_is_of_body None = refl
command_is_of_body (Some (L.Command e)) = refl
command_is_of_body (Some (L.Question q)) = refl
command_is_of_body (Some (L.Check c)) = refl

-- what was read of a line is what it asks for, want of memory aside
pub command_reads : (read : Result Line LineFault) (o : Option Line) → IfOk read (λ said. o ≡ Some said) → (IsErrOf read line.BadForm → o ≡ None)
    → Reads (command_of read) (command_task o)
command_reads (Ok (L.Command e)) o said bad = ap command_task (sym said)
command_reads (Ok (L.Question q)) o said bad = ap command_task (sym said)
command_reads (Ok (L.Check c)) o said bad = ap command_task (sym said)
command_reads (Err line.BadForm) o said bad = ap command_task (sym (bad refl))
command_reads (Err line.Memory) o said bad = command_is_of_body o

file_is_of_body : (import_metadata : ImportMetadata) (read : Result (List OrderRow) CsvFault) → is_of_body (file_task import_metadata read) ≡ true
file_is_of_body import_metadata (Ok orders) = refl
file_is_of_body import_metadata (Err fault) = refl

pub fault_reads : (kind : CsvKind) (e : CsvFault) (import_metadata : ImportMetadata) (read : Result (List OrderRow) CsvFault) → FailsAs kind e read
    → Reads (fault_task_of kind e) (file_task import_metadata read)
fault_reads csv.Memory e import_metadata read h = file_is_of_body import_metadata read
fault_reads csv.TooLong e import_metadata read h = ap (file_task import_metadata) (sym h)
fault_reads _ e import_metadata read h = ap (file_task import_metadata) (sym h)

-- ---- a body is checked as it is executed

-- a line and what is to be checked of it are the same command, or neither is one
abbrev Same : Option Line → ToCheck → Envelope → Type 0
Same o t e = (command_task o ≡ J.Command e) ↔ (J.Check t ≡ J.Check (to_check.Command e))

no_command : (o : Option Line) (p : FormatError) (e : Envelope) → command_task o ≡ J.BadForm → Same o (to_check.BadForm p) e
no_command o p e bad = (λ h. absurd (cc), λ h. absurd (cc))

command_alike : (r : Result Envelope FormatError) (e : Envelope) → Same (result_ok (r >>= (λ c. Ok (L.Command c)))) (checked_as r) e
command_alike (Ok c) e = (λ h. cc, λ h. cc)
command_alike (Err p) e = no_command None p e refl

no_word : (r : Result (List Field) ShapeError) → command_task (result_ok (object (r >>= (λ fs. Err shape_error.Malformed)))) ≡ J.BadForm
no_word (Ok fs) = refl
no_word (Err f) = refl

no_check : (r : Result ToCheck FormatError) → command_task (result_ok (r >>= (λ c. Ok (L.Check c)))) ≡ J.BadForm
no_check (Ok c) = refl
no_check (Err p) = refl

no_question : (r : Result Question FormatError) → command_task (result_ok (r >>= (λ q. Ok (L.Question q)))) ≡ J.BadForm
no_question (Ok q) = refl
no_question (Err p) = refl

around_is_none : (around : Around) (d : Data) (o : Option NodeKind) → command_task (result_ok (kind_around around o >>= (λ kind. question_in kind d >>= (λ question. Ok (L.Question question))))) ≡ J.BadForm
around_is_none around d None = refl
around_is_none around d (Some node) = no_question (question_in (q.Around around node) d)

asked_is_none : (kind : Option AskedKind) (d : Data) → command_task (result_ok (asked_by kind d)) ≡ J.BadForm
asked_is_none None d = no_word (fields_of (m.Ask ∷ []) d)
asked_is_none (Some asked.Check) d = no_check (check_of d)
asked_is_none (Some (asked.About topic)) d = no_question (question_in (q.About topic) d)
asked_is_none (Some (asked.List list)) d = no_question (question_in (q.List list) d)
asked_is_none (Some (asked.Around around)) d = around_is_none around d (node_in d)

by_words : (has_do has_ask : Bool) (d : Data) (e : Envelope)
    → Same (result_ok (if has_do then command_of_value d >>= (λ c. Ok (L.Command c)) else (if has_ask then question_line d else Err format_error.Neither)))
    (checked_as (if has_do then command_of_value d else (if has_ask then Err (format_error.Object (shape_error.Missing m.Do)) else Err format_error.Neither))) e
by_words true has_ask d e = command_alike (command_of_value d) e
by_words false true d e = no_command (result_ok (question_line d)) (format_error.Object (shape_error.Missing m.Do)) e (asked_is_none (kind_at d) d)
by_words false false d e = no_command None format_error.Neither e refl

by_object : (is_object : Bool) (d : Data) (e : Envelope)
    → Same (result_ok (if is_object then object_says d else Err (format_error.Object shape_error.NoObject)))
    (checked_as (if is_object then command_among d else Err (format_error.Object shape_error.NoObject))) e
by_object true d e = by_words (is_some (get (codes "do") d)) (is_some (get (codes "ask") d)) d e
by_object false d e = no_command None (format_error.Object shape_error.NoObject) e refl

by_reading : (r : Result Data FormatError) (e : Envelope) → Same (result_ok (r >>= value_says)) (checked_by r) e
by_reading (Ok d) e = by_object (is_some (as_object d)) d e
by_reading (Err p) e = no_command None p e refl

pub alike : (body : List ℕ) (e : Envelope) → (command_task (line_of body) ≡ J.Command e) ↔ (J.Check (text_checked body) ≡ J.Check (to_check.Command e))
unfolding line_says text_checked
alike body e = by_reading (value_in body) e

-- ---- an input asks for one thing

one_head : (head : List ℕ) (p q : Option RequestHead) → Parsed head p → Parsed head q → p ≡ q
one_head head None None a b = refl
one_head head None (Some h) a b = absurd (a h b.1 b.0)
one_head head (Some h) None a b = absurd (b h a.1 a.0)
one_head head (Some h) (Some k) a b = ap Some (request_unique head h k [] [] a.0 b.0).0

abbrev StepBy : Terms → Bool → List ℕ → HeadStep → HeadStep → Type 0
StepBy terms many head many_step step = MatchBool many (step ≡ many_step) ((p : Option RequestHead) × Parsed head p × (step ≡ parsed_step terms p))

one_step : (terms : Terms) (many : Bool) (head : List ℕ) (many_step a b : HeadStep) → StepBy terms many head many_step a → StepBy terms many head many_step b → a ≡ b
one_step terms true head many_step a b x y = x ∙ sym y
one_step terms false head many_step a b x y = x.2 ∙ ap (parsed_step terms) (one_head head x.0 y.0 x.1 y.1) ∙ sym y.2

one_at_end : (terms : Terms) (e : HeadEnd) (whole : List ℕ) (a b : Option ConditionalTask) → EndTask terms e whole a → EndTask terms e whole b → a ≡ b
one_at_end terms end.Nothing whole a b x y = x ∙ sym y
one_at_end terms end.Early whole a b x y = x ∙ sym y
one_at_end terms end.TooLong whole a b x y = x ∙ sym y
one_at_end terms (end.Found n) whole a b (i, x, (s, xs, xf)) (j, y, (t, yt, yf)) =
    let same = one_step terms (nat_lt 32 (field_lines (take n whole))) (take n whole) (fails HeadTooLarge false) s t xs yt in
    x ∙ ap Some (xf ∙ ap (λ step. finish terms step (drop n whole)) same ∙ sym yf) ∙ sym y

pub one_task : (terms : Terms) (whole : List ℕ) (a b : Option ConditionalTask) → TaskOf terms whole a → TaskOf terms whole b → a ≡ b
one_task terms whole a b x y = one_at_end terms (end_of_head whole) whole a b x y
