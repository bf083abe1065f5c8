-- The outcome of a check at a keeper, and that its answer is what the command would be answered.
use Rattle.std.specs.Prelude.{◌≡◌, ⊤, Option, Some, None, Result, Ok, Err}
use Rattle.plant_base.specs.{State, Envelope, Refusal}
use Rattle.plant_base.specs.declared.refusal.Refusal.TheVariants.{BadForm}
use Rattle.plant_keeper.specs.{refusal_of_reply, States, reply}
use Rattle.plant_questions.specs.{DeskFault}
use Rattle.plant_questions.specs.declared.reply.DeskFault.TheVariants.{Store, Memory, Shut}
use Rattle.plant_text_checks.specs.declared.reason.Reason.TheVariants as reason
use Rattle.plant_json_in.specs.{ToCheck}
use Rattle.plant_json_in.specs.declared.checks.ToCheck.TheVariants as to_check
use Rattle.plant_text_checks.specs.{check_answer, CheckAnswer}
use Rattle.plant_text_checks.specs.declared.answers.CheckAnswer.TheVariants as answer

-- what is to be checked is a command; else no keeper is asked
abbrev pub IsCommand : ToCheck → Type 0
IsCommand (to_check.Command e) = ⊤
IsCommand (to_check.BadForm p) = ⊥

-- the outcome of a check at an open keeper that represented s: the answer, and what it represents afterwards
abbrev pub ChecksAs : State → States → ToCheck → Result CheckAnswer DeskFault → Type 0
ChecksAs s represents c (Ok a) = (a ≡ check_answer s c) × represents s
ChecksAs s represents c (Err Store) = IsCommand c × represents s
ChecksAs s represents c (Err Memory) = IsCommand c × represents s
ChecksAs s represents c (Err Shut) = ⊥

-- the outcome of one at a keeper that is shut
abbrev pub check_when_shut : ToCheck → Result CheckAnswer DeskFault
check_when_shut (to_check.Command e) = Err Shut
check_when_shut (to_check.BadForm p) = Ok (answer.BadForm (reason.Shape p))

-- the refusal that an answer to a check names; none where the command would be accepted
abbrev pub refusal_answered : CheckAnswer → Option Refusal
refusal_answered answer.Accepted = None
refusal_answered (answer.Refused refusal item) = Some refusal
refusal_answered (answer.BadForm reason) = Some BadForm

-- of each command in each state it is the one that the command would be answered
abbrev pub CheckAnswersMatchReplies : Type 0
CheckAnswersMatchReplies = (s : State) (e : Envelope) → refusal_answered (check_answer s (to_check.Command e)) ≡ refusal_of_reply (reply s e)
