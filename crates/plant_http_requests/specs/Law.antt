-- The laws of tasks.
use Rattle.std.specs.Prelude.{◌≡◌, ◌↔◌, ℕ, true, false, List, map, take, Option, Some, is_some}
use Rattle.httparse.specs.Grammar.{RequestHead}
use Rattle.httparse.specs.Spans.{name_and_value}
use Rattle.plant_base.specs.{Envelope}
use Rattle.plant_json_in.specs.declared.checks.ToCheck.TheVariants as to_check
use Rattle.plant_http_requests.specs.HeadEnd.{end_of_head}
use Rattle.plant_http_requests.specs.declared.reading.HeadEnd.TheVariants.{Found}
use Rattle.plant_http_requests.specs.Heads.{Parsed}
use Rattle.plant_http_requests.specs.Fields.{condition_in}
use Rattle.plant_http_requests.specs.References.{lacks_needed}
use Rattle.plant_http_requests.specs.Senders.{field_of, operator_named}
use Rattle.plant_http_requests.specs.Steps.{under}
use Rattle.plant_http_requests.specs.Tasks.{TaskOf, body_task}
use Rattle.plant_http_requests.specs.declared.task.Sender.{Sender}
use Rattle.plant_http_requests.specs.declared.task.BodyKind.TheVariants as content
use Rattle.plant_http_requests.specs.declared.task.ConditionalTask.{ConditionalTask}
use Rattle.plant_http_requests.specs.declared.task.RequestTask.TheVariants.{Command, Check}
use Rattle.plant_http_requests.specs.declared.profile.Terms.{Terms}

-- by the same terms an input asks for one thing
abbrev pub AnInputAsksOneThing : Type 0
AnInputAsksOneThing = (terms : Terms) (whole : List ℕ) (a b : Option ConditionalTask) → TaskOf terms whole a → TaskOf terms whole b → a ≡ b

-- a body is executed as the command that it is checked as under the same reference of its head, and wherever it is checked as one, but where it lacks a
-- reference that is needed
abbrev pub ABodyIsCheckedAsItIsExecuted : Type 0
ABodyIsCheckedAsItIsExecuted = (terms : Terms) (sender : Sender) (given : Option (List ℕ)) (body : List ℕ) (e : Envelope)
    → (body_task terms sender (content.Command given) body ≡ Command e)
    ↔ ((body_task terms sender (content.Check given) body ≡ Check (to_check.Command e)) × (lacks_needed terms.needs_references (Command e) ≡ false))

-- where references are needed, the command that an input has executed has one
abbrev pub AnExecutedCommandHasItsReference : Type 0
AnExecutedCommandHasItsReference = (terms : Terms) (whole : List ℕ) (condition : Option ℕ) (e : Envelope) → terms.needs_references ≡ true
    → TaskOf terms whole (Some (under condition (Command e))) → is_some e.reference ≡ true

-- where a field says who sends a request, the command that an input has executed is given by the operator whom its head names
abbrev pub AnExecutedCommandIsItsSenders : Type 0
AnExecutedCommandIsItsSenders = (terms : Terms) (whole : List ℕ) (condition : Option ℕ) (e : Envelope) (name : List ℕ) → field_of terms ≡ Some name
    → TaskOf terms whole (Some (under condition (Command e)))
    → (n : ℕ) × (h : RequestHead) × (end_of_head whole ≡ Found n) × Parsed (take n whole) (Some h)
    × (operator_named name (map name_and_value h.fields) ≡ Some e.by)

-- a command is executed under the condition that the head of its input says, or under none where that says none
abbrev pub AnExecutedCommandHasItsCondition : Type 0
AnExecutedCommandHasItsCondition = (terms : Terms) (whole : List ℕ) (condition : Option ℕ) (e : Envelope)
    → TaskOf terms whole (Some (under condition (Command e)))
    → (n : ℕ) × (h : RequestHead) × (end_of_head whole ≡ Found n) × Parsed (take n whole) (Some h)
    × (condition_in (map name_and_value h.fields) ≡ Some condition)
