-- Where a command leads that is refused, that was accepted before, or that is new.
use Rattle.std.proofs.Common.{◌≡◌, ◌∙◌, ℕ, Option, Some, None, true, refl, sym, ap, not, if◌then◌else◌}
use Rattle.plant_base.specs.{State, Envelope, Receipt, Refusal, content_of, same}
use Rattle.plant_view.proofs.ListLemmas.{same_itself}
use Rattle.plant_base.specs.declared.refusal.Refusal.TheVariants.{BadForm, RefReused}
use Rattle.plant_view.specs.{refuse}
use Rattle.plant_rules.specs.{step, unless_refused, taken, IsRepeated, is_well_formed_body, wrong, wrong_there, kept_for, decoded}
use Rattle.plant_keeper.specs.{reply, reply_by, number_of}
use Rattle.plant_questions.specs.declared.reply.Reply.TheVariants.{Accepted}

-- a refused command leaves the state as it was
pub refused_step : (s : State) (e : Envelope) (r : Refusal) → wrong s e ≡ Some r → s ≡ step s e
unfolding step
refused_step s e r w = sym (ap (λ o. unless_refused o s (taken (kept_for s e) s e)) w)

pub unless_same : (s : State) (w : Option Refusal) → unless_refused w s s ≡ s
unless_same s None = refl
unless_same s (Some r) = refl

-- and so does one that was accepted before
pub repeat_step : (s : State) (e : Envelope) (r : Receipt) → kept_for s e ≡ Some r → s ≡ step s e
unfolding step
repeat_step s e r kept = sym ((λ i. unless_refused (wrong s e) s (taken (kept i) s e)) ∙ unless_same s (wrong s e))

-- ---- repeats

kept_some : (s : State) (e : Envelope) (n : ℕ) (k : Option Receipt) → kept_for s e ≡ k → IsRepeated (content_of e) n k → (r : Receipt) × (kept_for s e ≡ Some r) × (r.seq ≡ n) × (r.content ≡ content_of e)
kept_some s e n None is h = absurd h
kept_some s e n (Some r) is h = (r, is, h.0, h.1)

-- a repeat fails nothing
repeat_fine : (s : State) (e : Envelope) (r : Receipt) → is_well_formed_body e.body ≡ true → kept_for s e ≡ Some r → r.content ≡ content_of e → wrong s e ≡ None
unfolding wrong
repeat_fine s e r whole kept equal =
    (λ i. refuse (not (whole i)) BadForm (decoded (kept i) (content_of e) (wrong_there s e)))
    ∙ ap (λ b. if b then None else Some RefReused) (ap (λ c. same c (content_of e)) equal ∙ same_itself (content_of e))

-- it is answered its number, and leaves the state as it was
pub repeated : (s : State) (e : Envelope) (n : ℕ) → is_well_formed_body e.body ≡ true → IsRepeated (content_of e) n (kept_for s e) → (Accepted n ≡ reply s e) × (s ≡ step s e)
unfolding reply
repeated s e n whole again =
    let k = kept_some s e n (kept_for s e) refl again in
    let fine : wrong s e ≡ None = repeat_fine s e k.0 whole k.1 k.3 in
    (sym ((λ i. reply_by (fine i) (number_of (k.1 i) (step s e))) ∙ ap Accepted k.2), repeat_step s e k.0 k.1)

-- one that wasn't accepted before is answered the next number
pub answered_new : (s next : State) (e : Envelope) → wrong s e ≡ None → kept_for s e ≡ None → next ≡ step s e → Accepted next.seq ≡ reply s e
unfolding reply
answered_new s next e fine new is = sym ((λ i. reply_by (fine i) (number_of (new i) (step s e))) ∙ ap (λ (t : State). Accepted t.seq) (sym is))
