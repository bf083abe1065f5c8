-- What would become of what is to be checked.
use Rattle.std.specs.Prelude.{Option, Some, None}
use Rattle.plant_base.specs.{State}
use Rattle.plant_rules.specs.{checked, Checked}
use Rattle.plant_rules.specs.declared.checking.Checked.TheVariants.{Accepted, Refused}
use Rattle.plant_text_checks.specs.CommandErrors.{command_error_of}
use Rattle.plant_text_checks.specs.declared.command_errors.CommandError.{CommandError}
use Rattle.plant_text_checks.specs.declared.reason.Reason.TheVariants as reason
use Rattle.plant_json_in.specs.{ToCheck}
use Rattle.plant_json_in.specs.declared.checks.ToCheck.TheVariants as to_check
use Rattle.plant_text_checks.specs.declared.answers.CheckAnswer.{CheckAnswer}
use Rattle.plant_text_checks.specs.declared.answers.CheckAnswer.TheVariants as answer

-- of a command that is wrong whatever the state, that is reported, else what the state says
abbrev pub answer_by : Option CommandError → Checked → CheckAnswer
answer_by (Some m) c = answer.BadForm (reason.Command m)
answer_by None Accepted = answer.Accepted
answer_by None (Refused refusal item) = answer.Refused refusal item

-- what is answered in a state of what is to be checked
abbrev pub check_answer : State → ToCheck → CheckAnswer
check_answer s (to_check.Command e) = answer_by (command_error_of e.body) (checked s e)
check_answer s (to_check.BadForm p) = answer.BadForm (reason.Shape p)
