-- A check says what the command would be answered.
use Rattle.std.proofs.Common.{◌≡◌, ℕ, Option, Some, None, refl}
use Rattle.plant_base.specs.{State, Command, Envelope, Refusal}
use Rattle.plant_rules.specs.{wrong, kept_for, step}
use Rattle.plant_rules.specs.{checked, checked_by}
use Rattle.plant_keeper.specs.{refusal_of_reply, refusal_of_check, reply, reply_by, number_of}

same_refusal : (s : State) (c : Command) (w : Option Refusal) (n : ℕ) → refusal_of_check (checked_by s c w) ≡ refusal_of_reply (reply_by w n)
same_refusal s c None n = refl
same_refusal s c (Some r) n = refl

pub checks_match_replies : (s : State) (e : Envelope) → refusal_of_check (checked s e) ≡ refusal_of_reply (reply s e)
unfolding checked reply
checks_match_replies s e = same_refusal s e.body (wrong s e) (number_of (kept_for s e) (step s e))
