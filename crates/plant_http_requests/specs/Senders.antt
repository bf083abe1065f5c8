-- Whose commands a request may bring.
use Rattle.std.specs.Prelude.{ℕ, Bool, true, false, ◌&&◌, ◌==◌, nat_le, not, List, length, bytes_eq, Option, Some, None, option_and_then, option_copied, if◌then◌else◌}
use Rattle.plant_base.specs.{is_text, only}
use Rattle.plant_json_in.specs.declared.checks.ToCheck.TheVariants as to_check
use Rattle.plant_http_requests.specs.Fields.{Fields, count_named, value_named}
use Rattle.plant_http_requests.specs.declared.task.RequestTask.{RequestTask}
use Rattle.plant_http_requests.specs.declared.task.RequestTask.TheVariants.{Command, Check, OtherOperator}
use Rattle.plant_http_requests.specs.declared.profile.Terms.{Terms}
use Rattle.plant_http_requests.specs.declared.task.Sender.{Sender}
use Rattle.plant_http_requests.specs.declared.task.Sender.TheVariants.{Anyone, Operator, Nobody}

-- ---- the operator that a head names

-- a text that isn't empty
abbrev pub is_operator : List ℕ → Bool
is_operator text = is_text text && nat_le 1 (length text)

-- the operator that exactly one field of this name names
unfoldable pub operator_named : List ℕ → Fields → Option (List ℕ)
operator_named name fs = if count_named name fs == 1 then option_and_then (only is_operator) (value_named name fs) else None

abbrev pub sender_of : Option (List ℕ) → Sender
sender_of None = Nobody
sender_of (Some operator) = Operator operator

-- by the name of the field that says who sends a request: anyone where no field does
abbrev pub sender_in : Option (List ℕ) → Fields → Sender
sender_in None fs = Anyone
sender_in (Some name) fs = sender_of (operator_named name fs)

-- the name of the field that says who sends a request
abbrev pub field_of : Terms → Option (List ℕ)
field_of terms = option_copied terms.operator_field

-- ---- the operator of a command

-- the operator of the command that is to be executed or checked
abbrev pub operator_of : RequestTask → Option (List ℕ)
operator_of (Command e) = Some e.by
operator_of (Check (to_check.Command e)) = Some e.by
operator_of _ = None

-- the sender may give a command as this operator
abbrev pub may_be : Sender → List ℕ → Bool
may_be Anyone by = true
may_be (Operator operator) by = bytes_eq by operator
may_be Nobody by = false

-- there is such a command, and the sender may not give it
abbrev pub is_of_other : Sender → Option (List ℕ) → Bool
is_of_other sender None = false
is_of_other sender (Some by) = not (may_be sender by)

-- the task, where the sender may give its command
abbrev pub of_sender : Sender → RequestTask → RequestTask
of_sender sender task = if is_of_other sender (operator_of task) then OtherOperator else task
