-- The answer to a check of a command is what the command would be answered.
use Rattle.std.proofs.Common.{◌≡◌, ◌∙◌, Bool, true, false, Option, Some, None, refl, ap, is_none}
use Rattle.std.proofs.lemmas.Bool.{false≢true}
use Rattle.plant_base.specs.{State, Envelope}
use Rattle.plant_rules.specs.{is_well_formed_body, wrong}
use Rattle.plant_rules.specs.{checked, Checked}
use Rattle.plant_rules.specs.declared.checking.Checked.TheVariants.{Accepted, Refused}
use Rattle.plant_text_checks.specs.{command_error_of, CommandError}
use Rattle.plant_text_checks.proofs.NoErrorIffWellFormed.{reported_unless_well_formed}
use Rattle.plant_keeper.specs.{refusal_of_reply, refusal_of_check, reply}
use Rattle.plant_keeper.proofs.ChecksMatchReplies.{checks_match_replies}
use Rattle.plant_text_checks.specs.{answer_by}
use Rattle.plant_text.specs.{refusal_answered, CheckAnswersMatchReplies}

by_state : (c : Checked) → refusal_answered (answer_by None c) ≡ refusal_of_check c
by_state Accepted = refl
by_state (Refused r item) = refl

by_error : (s : State) (e : Envelope) (o : Option CommandError) → o ≡ command_error_of e.body → (whole : Bool) → is_well_formed_body e.body ≡ whole → refusal_answered (answer_by o (checked s e)) ≡ refusal_of_reply (reply s e)
unfolding reply wrong
by_error s e (Some m) is true whole = absurd (false≢true (ap is_none ((reported_unless_well_formed e.body (Some m) is).1 whole)))
by_error s e (Some m) is false whole = rw whole refl
by_error s e None is w whole = by_state (checked s e) ∙ checks_match_replies s e

pub check_answers_match_replies : CheckAnswersMatchReplies
check_answers_match_replies s e = by_error s e (command_error_of e.body) refl (is_well_formed_body e.body) refl
