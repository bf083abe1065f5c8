-- What is answered to a task.
use Rattle.std.specs.Prelude.{◌≡◌, ℕ, Bool, true, false, ◌||◌, List, [], ◌∷◌, ◌++◌, length, codes, decimal, string_bytes, if◌then◌else◌, ◌==◌, ◌⊎◌, Option, Some, None, Result, Ok, Err}
use Rattle.httpdate.specs.Date.{date_text}
use Rattle.httpdate.specs.declared.date.HttpDate.{HttpDate}
use Rattle.desk_page.specs.{Resource, bytes_of, media_type_of, tag_of}
use Rattle.desk_page.specs.declared.resource.Resource.TheVariants as part
use Rattle.desk_page.specs.declared.policy.TheConstants.{POLICY}
use Rattle.plant_base.specs.{State, number_of}
use Rattle.plant_base.specs.declared.refusal.Refusal.TheVariants.{BadForm}
use Rattle.plant_orders.specs.{kind_name, CsvFault}
use Rattle.plant_answers.specs.{answer}
use Rattle.plant_keeper.specs.{reply}
use Rattle.plant_questions.specs.{Answer as DeskAnswer, BatchView, DeskFault, Reply}
use Rattle.plant_questions.specs.declared.question.Answer.TheVariants as A
use Rattle.plant_questions.specs.declared.reply.Reply.TheVariants.{Accepted, Refused}
use Rattle.plant_questions.specs.declared.reply.DeskFault.TheVariants as fault
use Rattle.plant_text_answers.specs.{record_text}
use Rattle.plant_text_answers.specs.{text_of_answer, reply_text, fault_text}
use Rattle.plant_text_checks.specs.{check_text, check_answer, CheckAnswer}
use Rattle.plant_text.specs.{check_when_shut}
use Rattle.plant_http_requests.specs.{Allow, ConditionalTask, Figures, HeadDecision, Presentation, RequestTask, Profile, Status, StatusCount, Terms}
use Rattle.plant_http_requests.specs.declared.profile.Profile.TheVariants as profile
use Rattle.plant_http_requests.specs.{BodyFormat}
use Rattle.plant_http_requests.specs.declared.task.HeadDecision.TheVariants as head
use Rattle.plant_http_requests.specs.declared.task.RequestTask.TheVariants as J
use Rattle.plant_http_requests.specs.declared.routes.BodyFormat.TheVariants.{Json, Record}
use Rattle.plant_http_requests.specs.declared.status.Status.TheVariants as st
use Rattle.plant_http_requests.specs.declared.status.Allow.TheVariants.{NoHeader, Get, Post}
use Rattle.plant_http.specs.declared.media.MediaType.{MediaType}
use Rattle.plant_http.specs.declared.media.MediaType.TheVariants as media
use Rattle.plant_http.specs.declared.answer.Response.{Response}
use Rattle.plant_http.specs.declared.answer.Body.{Body}
use Rattle.plant_http.specs.declared.answer.Body.TheVariants as B

-- ---- statuses

abbrev pub code_of : Status → ℕ
code_of st.Success = 200
code_of st.NotModified = 304
code_of st.BadRequest = 400
code_of st.Forbidden = 403
code_of st.NotFound = 404
code_of st.MethodNotAllowed = 405
code_of st.Conflict = 409
code_of st.LengthRequired = 411
code_of st.PreconditionFailed = 412
code_of st.PayloadTooLarge = 413
code_of st.HeadTooLarge = 431
code_of st.NotImplemented = 501
code_of st.Unavailable = 503

abbrev pub phrase_of : Status → List ℕ
phrase_of st.Success = codes "OK"
phrase_of st.NotModified = codes "Not Modified"
phrase_of st.BadRequest = codes "Bad Request"
phrase_of st.Forbidden = codes "Forbidden"
phrase_of st.NotFound = codes "Not Found"
phrase_of st.MethodNotAllowed = codes "Method Not Allowed"
phrase_of st.Conflict = codes "Conflict"
phrase_of st.LengthRequired = codes "Length Required"
phrase_of st.PreconditionFailed = codes "Precondition Failed"
phrase_of st.PayloadTooLarge = codes "Payload Too Large"
phrase_of st.HeadTooLarge = codes "Request Header Fields Too Large"
phrase_of st.NotImplemented = codes "Not Implemented"
phrase_of st.Unavailable = codes "Service Unavailable"

abbrev pub allow_line : Allow → List ℕ
allow_line NoHeader = []
allow_line Get = codes "Allow: GET, HEAD\r\n"
allow_line Post = codes "Allow: POST\r\n"

abbrev pub media_of : BodyFormat → MediaType
media_of Json = media.Json
media_of Record = media.Plain

abbrev pub type_of : MediaType → List ℕ
type_of media.Json = codes "application/json"
type_of media.Plain = codes "text/plain"
type_of (media.Resource resource) = media_type_of resource

-- the policy under which a browser shows the page
unfoldable pub policy_bytes : List ℕ
policy_bytes = POLICY.now

-- whether a resource is the page itself
abbrev pub is_page : Resource → Bool
is_page part.Page = true
is_page _ = false

-- the lines that keep a resource from misuse: each, and the page itself
abbrev pub security_header_lines : Resource → List ℕ
security_header_lines resource =
    if is_page resource
    then codes "X-Frame-Options: DENY\r\n" ++ codes "X-Content-Type-Options: nosniff\r\n"
    ++ codes "Content-Security-Policy: " ++ policy_bytes ++ codes "\r\n"
    else codes "X-Content-Type-Options: nosniff\r\n"

-- the lines by which a browser keeps a resource, and asks each time whether it still is as it was
abbrev pub validator_lines : Resource → List ℕ
validator_lines resource = codes "ETag: " ++ tag_of resource ++ codes "\r\nCache-Control: no-cache\r\n"

-- the lines of the fields that only a resource of the page has
abbrev pub resource_lines : MediaType → List ℕ
resource_lines media.Json = []
resource_lines media.Plain = []
resource_lines (media.Resource resource) = security_header_lines resource ++ validator_lines resource

-- ---- the text of an answer

-- the line of the machine's time, where the answer carries it
abbrev pub date_line : Option HttpDate → List ℕ
date_line None = []
date_line (Some now) = codes "Date: " ++ date_text now ++ codes "\r\n"

-- the lines before a body of so many bytes
unfoldable pub head_text : Option HttpDate → Status → Allow → MediaType → ℕ → List ℕ
head_text date status allow media_type size =
    codes "HTTP/1.1 " ++ decimal (code_of status) ++ codes " " ++ phrase_of status
    ++ codes "\r\nContent-Type: " ++ type_of media_type
    ++ codes "\r\nContent-Length: " ++ decimal size
    ++ codes "\r\nConnection: close\r\n" ++ date_line date ++ allow_line allow ++ resource_lines media_type ++ codes "\r\n"

-- an answer's parts
pub record Out : Type 0 where
  pub status : Status
  pub allow : Allow
  pub media_type : MediaType
  pub body : List ℕ

-- the bytes of an answer, whose body may be left out
unfoldable pub answer_bytes : Option HttpDate → Bool → Out → List ℕ
answer_bytes date silent out = head_text date out.status out.allow out.media_type (length out.body) ++ (if silent then [] else out.body)

-- ---- bodies

abbrev pub status_text : Status → List ℕ
status_text status = codes "{\"status\":" ++ decimal (code_of status) ++ codes "}"

-- a command is ahead of the machine's clock by more than so many seconds
abbrev pub ahead_text : ℕ → List ℕ
ahead_text most = codes "{\"ahead\":" ++ decimal most ++ codes ",\"status\":400}"

-- another number of accepted commands than was asked for
abbrev pub seq_text : ℕ → List ℕ
seq_text seq = codes "{\"seq\":" ++ decimal seq ++ codes ",\"status\":412}"

-- a byte of a text as a string of JSON has it: a quotation mark and a backslash come after a backslash
abbrev pub escaped_byte : ℕ → List ℕ
escaped_byte b = if (b == 34) || (b == 92) then 92 ∷ b ∷ [] else b ∷ []

abbrev pub escaped : List ℕ → List ℕ
escaped [] = []
escaped (b ∷ text) = escaped_byte b ++ escaped text

-- the operator whom a head names
abbrev pub operator_text : List ℕ → List ℕ
operator_text operator = codes "{\"operator\":\"" ++ escaped operator ++ codes "\"}"

-- how many answers had a status, as a member
abbrev pub count_text : StatusCount → List ℕ
count_text c = codes "\"" ++ decimal c.status ++ codes "\":" ++ decimal c.count ++ codes ","

abbrev pub counts_text : List StatusCount → List ℕ
counts_text [] = []
counts_text (c ∷ counts) = count_text c ++ counts_text counts

-- a text that may lack
abbrev pub text_or_null : Option (List ℕ) → List ℕ
text_or_null None = codes "null"
text_or_null (Some text) = codes "\"" ++ escaped text ++ codes "\""

-- how the server fares and is presented, and the schema, the number and the moment of the last accepted command
unfoldable pub health_text : Presentation → Figures → ℕ → ℕ → ℕ → List ℕ
health_text presentation figures schema seq at =
    codes "{\"answers\":{" ++ counts_text figures.answers ++ codes "\"none\":" ++ decimal figures.unanswered
    ++ codes "},\"at\":" ++ decimal at ++ codes ",\"digest\":\"" ++ decimal figures.digest ++ codes "\",\"digested\":" ++ decimal figures.digested
    ++ codes ",\"instance\":\"" ++ decimal figures.began
    ++ codes "\",\"language\":" ++ text_or_null presentation.language ++ codes ",\"name\":" ++ text_or_null presentation.name
    ++ codes ",\"schema\":" ++ decimal schema ++ codes ",\"seconds\":" ++ decimal figures.seconds ++ codes ",\"seq\":" ++ decimal seq ++ codes "}"

-- a command lacks the reference that it has to have
abbrev pub reference_text : List ℕ
reference_text = codes "{\"reference\":\"missing\",\"status\":400}"

abbrev pub csv_text : CsvFault → List ℕ
csv_text f = codes "{\"csv\":\"" ++ kind_name f.kind ++ codes "\",\"row\":" ++ decimal f.row ++ codes "}"

abbrev pub json_out : Status → List ℕ → Out
json_out status body = record { status = status; allow = NoHeader; media_type = media.Json; body = body }

-- a status alone
abbrev pub error_out : Status → Allow → Out
error_out status allow = record { status = status; allow = allow; media_type = media.Json; body = status_text status }

-- a fault of the keeper, or want of memory
abbrev pub fault_out : DeskFault → Out
fault_out f = json_out st.Unavailable (fault_text f)

abbrev pub operator_out : List ℕ → Out
operator_out operator = json_out st.Success (operator_text operator)

abbrev pub health_out : Presentation → Figures → ℕ → ℕ → ℕ → Out
health_out presentation figures schema seq at = json_out st.Success (health_text presentation figures schema seq at)

abbrev pub reference_out : Out
reference_out = json_out st.BadRequest reference_text

abbrev pub ahead_out : ℕ → Out
ahead_out most = json_out st.BadRequest (ahead_text most)

abbrev pub seq_out : ℕ → Out
seq_out seq = json_out st.PreconditionFailed (seq_text seq)

abbrev pub csv_out : CsvFault → Out
csv_out f = json_out st.BadRequest (csv_text f)

abbrev pub refused_status : ℕ → Status
refused_status number = if number == 1 then st.BadRequest else st.Conflict

abbrev pub reply_status : Reply → Status
reply_status (Accepted seq) = st.Success
reply_status (Refused r) = refused_status (number_of r)

abbrev pub reply_out : Reply → Out
reply_out r = json_out (reply_status r) (reply_text r)

-- an unknown id is answered as a refusal
abbrev pub answer_status : DeskAnswer → Status
answer_status (A.Unknown r) = st.NotFound
answer_status _ = st.Success

-- only a batch has a record
abbrev pub body_format_for : BodyFormat → DeskAnswer → BodyFormat
body_format_for body_format (A.Batch v) = body_format
body_format_for body_format _ = Json

-- what is known of a batch, in JSON or as its record
abbrev pub batch_in : BodyFormat → BatchView → List ℕ
batch_in Json v = text_of_answer (A.Batch v)
batch_in Record v = record_text v

abbrev pub text_in : BodyFormat → DeskAnswer → List ℕ
text_in body_format (A.Batch v) = batch_in body_format v
text_in body_format a = text_of_answer a

abbrev pub answer_out : BodyFormat → DeskAnswer → Out
answer_out body_format a = record { status = answer_status a; allow = NoHeader; media_type = media_of (body_format_for body_format a); body = text_in body_format a }

-- that a command would be refused is an answer as another is
abbrev pub check_out : CheckAnswer → Out
check_out a = json_out st.Success (check_text a)

-- the outcome of a check
abbrev pub checked_out : Result CheckAnswer DeskFault → Out
checked_out (Ok a) = check_out a
checked_out (Err f) = fault_out f

-- a client that has a resource as it is learns just that
abbrev pub resource_status : Bool → Status
resource_status is_current = if is_current then st.NotModified else st.Success

abbrev pub resource_out : Resource → Bool → Out
resource_out resource is_current =
    record { status = resource_status is_current; allow = NoHeader; media_type = media.Resource resource; body = bytes_of resource }

-- ---- tasks

-- what is answered to the decision of a head by a keeper of schema k that represents s
abbrev pub decision_out : ℕ → State → HeadDecision → Out
decision_out k s (head.Refuse status allow silent) = error_out status allow
decision_out k s (head.Ask question body_format silent) = answer_out body_format (answer k s question)
decision_out k s (head.Operator operator silent) = operator_out operator
decision_out k s (head.Health presentation figures silent) = health_out presentation figures k s.seq s.at
decision_out k s (head.Resource resource is_current silent) = resource_out resource is_current

-- what is answered to it by a keeper that is shut
abbrev pub decision_shut : HeadDecision → Out
decision_shut (head.Refuse status allow silent) = error_out status allow
decision_shut (head.Ask question body_format silent) = fault_out fault.Shut
decision_shut (head.Operator operator silent) = operator_out operator
decision_shut (head.Health presentation figures silent) = fault_out fault.Shut
decision_shut (head.Resource resource is_current silent) = resource_out resource is_current

-- whether the answer's body is left out: to a HEAD, and where the client has a resource as it is
abbrev pub is_silent_decision : HeadDecision → Bool
is_silent_decision (head.Refuse status allow silent) = silent
is_silent_decision (head.Ask question body_format silent) = silent
is_silent_decision (head.Operator operator silent) = silent
is_silent_decision (head.Health presentation figures silent) = silent
is_silent_decision (head.Resource resource is_current silent) = is_current || silent

-- what is answered to a task by a keeper of schema k that represents s
abbrev pub task_out : ℕ → State → RequestTask → Out
task_out k s (J.Decided decision) = decision_out k s decision
task_out k s (J.Command e) = reply_out (reply s e)
task_out k s (J.Check c) = check_out (check_answer s c)
task_out k s J.OtherOperator = error_out st.Forbidden NoHeader
task_out k s J.NoReference = reference_out
task_out k s (J.Ahead most) = ahead_out most
task_out k s J.BadForm = reply_out (Refused BadForm)
task_out k s (J.BadFile f) = csv_out f
task_out k s J.MemoryError = fault_out fault.Memory

-- what is answered to it by a keeper that is shut: the fault 3 where it is asked
abbrev pub task_shut : RequestTask → Out
task_shut (J.Decided decision) = decision_shut decision
task_shut (J.Command e) = fault_out fault.Shut
task_shut (J.Check c) = checked_out (check_when_shut c)
task_shut J.OtherOperator = error_out st.Forbidden NoHeader
task_shut J.NoReference = reference_out
task_shut (J.Ahead most) = ahead_out most
task_shut J.BadForm = reply_out (Refused BadForm)
task_shut (J.BadFile f) = csv_out f
task_shut J.MemoryError = fault_out fault.Memory

-- whether the body of a task's answer is left out
abbrev pub is_silent_task : RequestTask → Bool
is_silent_task (J.Decided decision) = is_silent_decision decision
is_silent_task _ = false

-- ---- tasks under a condition

-- so many commands were accepted, where a number is asked for
abbrev pub is_met : Option ℕ → State → Bool
is_met None s = true
is_met (Some n) s = s.seq == n

-- what is answered to a task under its condition: where that isn't met, the number of accepted commands
abbrev pub out_of : ℕ → State → ConditionalTask → Out
out_of k s t = if is_met t.condition s then task_out k s t.task else seq_out s.seq

abbrev pub shut_under : Option ℕ → RequestTask → Out
shut_under None task = task_shut task
shut_under (Some n) task = fault_out fault.Shut

-- what is answered to it by a keeper that is shut, which is asked for the number first
abbrev pub shut_out : ConditionalTask → Out
shut_out t = shut_under t.condition t.task

abbrev pub is_silent : ConditionalTask → Bool
is_silent t = is_silent_task t.task

-- the time that an answer carries: with the page, that of the machine
abbrev pub dated_by : Profile → Option HttpDate → Option HttpDate
dated_by profile.Open now = None
dated_by (profile.Page hosts) now = now

abbrev pub dated : Terms → Option HttpDate
dated terms = dated_by terms.profile terms.now.time

-- ---- answers in the code

abbrev pub body_bytes : Body → List ℕ
body_bytes (B.Reply text) = text
body_bytes (B.Short text) = text
body_bytes (B.Long text) = string_bytes text
body_bytes (B.Resource resource) = bytes_of resource

abbrev pub rendered : Response → Out
rendered a = record { status = a.status; allow = a.allow; media_type = a.media_type; body = body_bytes a.body }

-- the answer has these parts
pub record Is (out : Out) (silent : Bool) (a : Response) : Type 0 where
  pub parts : rendered a ≡ out
  pub silence : a.silent ≡ silent

-- the answer to the outcome of a command
abbrev pub Executed : Result Reply DeskFault → Response → Type 0
Executed (Ok r) a = Is (reply_out r) false a
Executed (Err f) a = Is (fault_out f) false a

-- the answer to the outcome of a question; memory may be refused for its text
abbrev pub Asked : BodyFormat → Result DeskAnswer DeskFault → Out → Type 0
Asked body_format (Ok x) out = (out ≡ answer_out body_format x) ⊎ (out ≡ fault_out fault.Memory)
Asked body_format (Err f) out = out ≡ fault_out f

-- the answer to the outcome of a check; memory may be refused for its text
abbrev pub Checked : Result CheckAnswer DeskFault → Out → Type 0
Checked (Ok a) out = (out ≡ check_out a) ⊎ (out ≡ fault_out fault.Memory)
Checked (Err f) out = out ≡ fault_out f
