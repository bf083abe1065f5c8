-- What the head of a request decides.
use Rattle.std.specs.Prelude.{ℕ, Bool, false, ◌||◌, List, codes, bytes_eq, Option, Some, None, option_map, Result, Ok, Err, if◌then◌else◌}
use Rattle.desk_page.specs.{Resource, resource_at, tag_of}
use Rattle.plant_questions.specs.{Question}
use Rattle.plant_http_requests.specs.Routes.{target_of}
use Rattle.plant_http_requests.specs.declared.routes.BodyFormat.{BodyFormat}
use Rattle.plant_http_requests.specs.declared.routes.Post.{Post}
use Rattle.plant_http_requests.specs.declared.routes.Target.{Target}
use Rattle.plant_http_requests.specs.declared.routes.Post.TheVariants as post
use Rattle.plant_http_requests.specs.declared.routes.Target.TheVariants as target
use Rattle.plant_http_requests.specs.Fields.{Fields, condition_in, import_metadata_in, reference_in}
use Rattle.plant_http_requests.specs.Framing.{framing}
use Rattle.plant_http_requests.specs.Validators.{is_current}
use Rattle.plant_http_requests.specs.declared.task.RequestTask.{RequestTask}
use Rattle.plant_http_requests.specs.declared.task.RequestTask.TheVariants as task
use Rattle.plant_http_requests.specs.declared.task.HeadDecision.{HeadDecision}
use Rattle.plant_http_requests.specs.declared.task.HeadDecision.TheVariants as head
use Rattle.plant_http_requests.specs.declared.task.BodyKind.{BodyKind}
use Rattle.plant_http_requests.specs.declared.task.BodyKind.TheVariants as content
use Rattle.plant_http_requests.specs.declared.task.BodyFields.{BodyFields}
use Rattle.plant_http_requests.specs.declared.task.ConditionalTask.{ConditionalTask}
use Rattle.plant_http_requests.specs.declared.task.HeadStep.{HeadStep}
use Rattle.plant_http_requests.specs.declared.task.HeadStep.TheVariants as S
use Rattle.plant_http_requests.specs.declared.figures.Figures.{Figures}
use Rattle.plant_http_requests.specs.declared.profile.Presentation.{Presentation}
use Rattle.plant_http_requests.specs.declared.profile.Profile.{Profile}
use Rattle.plant_http_requests.specs.declared.profile.Profile.TheVariants as profile
use Rattle.plant_http_requests.specs.declared.profile.Terms.{Terms}
use Rattle.plant_http_requests.specs.declared.task.Sender.{Sender}
use Rattle.plant_http_requests.specs.declared.task.Sender.TheVariants.{Operator}
use Rattle.plant_http_requests.specs.Senders.{field_of, sender_in}
use Rattle.plant_http_requests.specs.declared.status.Status.{Status}
use Rattle.plant_http_requests.specs.declared.status.Status.TheVariants.{Forbidden, NotFound, MethodNotAllowed, LengthRequired}
use Rattle.plant_http_requests.specs.declared.status.Allow.{Allow}
use Rattle.plant_http_requests.specs.declared.status.Allow.TheVariants as allow

abbrev pub refused : Status → Bool → HeadDecision
refused status silent = head.Refuse status allow.NoHeader silent

abbrev pub refusal_of : Status → Bool → RequestTask
refusal_of status silent = task.Decided (refused status silent)

-- the task that is done at this number of accepted commands alone, or at any
abbrev pub under : Option ℕ → RequestTask → ConditionalTask
under condition task = record { condition = condition; task = task }

abbrev pub refused_task : Status → Bool → ConditionalTask
refused_task status silent = under None (refusal_of status silent)

abbrev pub fails : Status → Bool → HeadStep
fails status silent = S.Decided (refused status silent)

-- the path has other methods, which are named
abbrev pub lacks_method : Allow → Bool → HeadStep
lacks_method methods silent = S.Decided (head.Refuse MethodNotAllowed methods silent)

abbrev pub is_head : List ℕ → Bool
is_head method = bytes_eq method (codes "HEAD")

-- a POST has a length
abbrev pub post_step : BodyFields → Sender → Option ℕ → HeadStep
post_step fields sender None = fails LengthRequired false
post_step fields sender (Some n) = S.Body n fields sender

-- a path that takes a body
abbrev pub posted_step : BodyFields → Sender → List ℕ → Option ℕ → HeadStep
posted_step fields sender method length =
    if bytes_eq method (codes "POST") then post_step fields sender length else lacks_method allow.Post (is_head method)

-- a path that is asked; a HEAD is answered as a GET, the body left out
abbrev pub asked_step : Question → BodyFormat → List ℕ → HeadStep
asked_step question body_format method =
    if bytes_eq method (codes "GET") || is_head method then S.Decided (head.Ask question body_format (is_head method))
    else lacks_method allow.Get false

-- what a path brings by POST, where the fields that it looks at obey their rules
abbrev pub kind_in : Post → Fields → Option BodyKind
kind_in post.Command fs = option_map content.Command (reference_in fs)
kind_in post.Check fs = option_map content.Check (reference_in fs)
kind_in post.Orders fs = option_map content.Orders (import_metadata_in fs)

abbrev pub fields_where : Option (Option ℕ) → Option BodyKind → BodyFields
fields_where None kind = record { content = content.BadFields; condition = None }
fields_where (Some condition) None = record { content = content.BadFields; condition = None }
fields_where (Some condition) (Some kind) = record { content = kind; condition = condition }

-- what the fields of a head say of its body
abbrev pub body_fields_in : Post → Fields → BodyFields
body_fields_in post fs = fields_where (condition_in fs) (kind_in post fs)

abbrev pub target_step : Terms → Target → List ℕ → Option ℕ → Fields → HeadStep
target_step terms (target.Question question body_format) method length fs = asked_step question body_format method
target_step terms (target.Post post) method length fs = posted_step (body_fields_in post fs) (sender_in (field_of terms) fs) method length

abbrev pub found_step : Terms → Option Target → List ℕ → Option ℕ → Fields → HeadStep
found_step terms None method length fs = fails NotFound (is_head method)
found_step terms (Some t) method length fs = target_step terms t method length fs

-- the resources of the web page are at their paths where the profile has them
abbrev pub resource_for : Profile → List ℕ → Option Resource
resource_for profile.Open path = None
resource_for (profile.Page hosts) path = resource_at path

-- a resource, and whether the client has it as it is; a HEAD is answered as a GET, the body left out
abbrev pub resource_step : Resource → List ℕ → Fields → HeadStep
resource_step resource method fs =
    if bytes_eq method (codes "GET") || is_head method then S.Decided (head.Resource resource (is_current (tag_of resource) fs) (is_head method))
    else lacks_method allow.Get false

-- the path at which a client asks who it is, where a field says so
abbrev pub asks_operator : Option (List ℕ) → List ℕ → Bool
asks_operator None path = false
asks_operator (Some name) path = bytes_eq path (codes "/v1/operator")

abbrev pub named_step : Sender → Bool → HeadStep
named_step (Operator operator) silent = S.Decided (head.Operator operator silent)
named_step _ silent = fails Forbidden silent

-- the operator whom the head names; a HEAD is answered as a GET, the body left out
abbrev pub operator_step : Sender → List ℕ → HeadStep
operator_step sender method =
    if bytes_eq method (codes "GET") || is_head method then named_step sender (is_head method) else lacks_method allow.Get false

-- the path at which a client asks how the server fares
abbrev pub asks_health : List ℕ → Bool
asks_health path = bytes_eq path (codes "/v1/health")

-- how the server fares; a HEAD is answered as a GET, the body left out
abbrev pub health_step : Presentation → Figures → List ℕ → HeadStep
health_step presentation figures method =
    if bytes_eq method (codes "GET") || is_head method then S.Decided (head.Health presentation figures (is_head method)) else lacks_method allow.Get false

-- how the page presents the desk, by these terms
abbrev pub presentation_of : Terms → Presentation
presentation_of terms = record { name = terms.name.now; language = terms.language.now }

-- what a path decides at which nobody asks for an operator: how the server fares, or what it is looked up as
abbrev pub listed_step : Terms → List ℕ → List ℕ → Option ℕ → Fields → HeadStep
listed_step terms path method length fs =
    if asks_health path then health_step (presentation_of terms) terms.now.figures method else found_step terms (target_of path) method length fs

-- what a path decides that is none of a resource
abbrev pub unpaged_step : Terms → List ℕ → List ℕ → Option ℕ → Fields → HeadStep
unpaged_step terms path method length fs =
    if asks_operator (field_of terms) path then operator_step (sender_in (field_of terms) fs) method
    else listed_step terms path method length fs

-- what a path decides that is that of a resource, or else is looked up among the others
abbrev pub placed_step : Terms → Option Resource → List ℕ → List ℕ → Option ℕ → Fields → HeadStep
placed_step terms (Some resource) path method length fs = resource_step resource method fs
placed_step terms None path method length fs = unpaged_step terms path method length fs

abbrev pub routed_step : Terms → List ℕ → List ℕ → Option ℕ → Fields → HeadStep
routed_step terms path method length fs = placed_step terms (resource_for terms.profile path) path method length fs

abbrev pub framed_step : Terms → Result (Option ℕ) Status → List ℕ → List ℕ → Fields → HeadStep
framed_step terms (Err status) method path fs = fails status (is_head method)
framed_step terms (Ok length) method path fs = routed_step terms path method length fs

-- what the parts of a head decide: first by its fields, then by its path, then by its method
unfoldable pub request_step : Terms → List ℕ → List ℕ → ℕ → Fields → HeadStep
request_step terms method path minor fs = framed_step terms (framing terms.profile minor fs) method path fs
