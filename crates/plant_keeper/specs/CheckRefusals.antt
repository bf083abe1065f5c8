-- That a check says what the command would be answered.
use Rattle.std.specs.Prelude.{◌≡◌, Option, Some, None}
use Rattle.plant_base.specs.{State, Envelope, Refusal}
use Rattle.plant_rules.specs.{checked, Checked}
use Rattle.plant_rules.specs.declared.checking.Checked.TheVariants as check
use Rattle.plant_questions.specs.{Reply}
use Rattle.plant_questions.specs.declared.reply.Reply.TheVariants as answer
use Rattle.plant_keeper.specs.Replies.{reply}

-- the refusal of a reply; none where the command is accepted
abbrev pub refusal_of_reply : Reply → Option Refusal
refusal_of_reply (answer.Accepted n) = None
refusal_of_reply (answer.Refused r) = Some r

-- the refusal that a check names; none where the command would be accepted
abbrev pub refusal_of_check : Checked → Option Refusal
refusal_of_check check.Accepted = None
refusal_of_check (check.Refused r item) = Some r

-- of each command in each state the two are the same
abbrev pub ChecksMatchReplies : Type 0
ChecksMatchReplies = (s : State) (e : Envelope) → refusal_of_check (checked s e) ≡ refusal_of_reply (reply s e)
