-- What a check says, by the first condition that the command fails.
use Rattle.std.proofs.Common.{◌≡◌, ◌∙◌, ℕ, true, Option, Some, None, ap, not, if◌then◌else◌}
use Rattle.plant_base.specs.{content_of, State, same, Envelope, Receipt, Refusal}
use Rattle.plant_base.specs.declared.refusal.Refusal.TheVariants.{BadForm, RefReused}
use Rattle.plant_view.proofs.ListLemmas.{same_itself}
use Rattle.plant_view.specs.{refuse}
use Rattle.plant_rules.specs.{IsRepeated, is_well_formed_body, wrong, wrong_there, kept_for, decoded}
use Rattle.plant_rules.specs.{checked, checked_by, item_of}
use Rattle.plant_rules.specs.declared.checking.Checked.TheVariants.{Accepted, Refused}

pub checked_accepted : (s : State) (e : Envelope) → wrong s e ≡ None → checked s e ≡ Accepted
unfolding checked
checked_accepted s e w = ap (checked_by s e.body) w

pub checked_refused : (s : State) (e : Envelope) (r : Refusal) → wrong s e ≡ Some r → checked s e ≡ Refused r (item_of s e.body r)
unfolding checked
checked_refused s e r w = ap (checked_by s e.body) w

-- the same content is a repeat
decoded_same : (k : Option Receipt) (content : _) (n : ℕ) (rest : Option Refusal) → IsRepeated content n k → decoded k content rest ≡ None
decoded_same None content n rest is = absurd is
decoded_same (Some r) content n rest is = ap (λ b. if b then None else Some RefReused) (ap (λ c. same c content) is.1 ∙ same_itself content)

-- a command that was accepted before fails no condition
pub repeat_passes : (s : State) (e : Envelope) (n : ℕ) → is_well_formed_body e.body ≡ true → IsRepeated (content_of e) n (kept_for s e) → wrong s e ≡ None
unfolding wrong
repeat_passes s e n whole is =
    ap (λ b. refuse (not b) BadForm (decoded (kept_for s e) (content_of e) (wrong_there s e))) whole
    ∙ decoded_same (kept_for s e) (content_of e) n (wrong_there s e) is
