-- A command that was taken changes nothing when it comes again, and gets the same reply.
use Rattle.std.proofs.Common.{◌≡◌, ◌∙◌, ◌⊎◌, ℕ, Bool, true, false, List, [], ◌∷◌, ◌++◌, Option, Some, None, IsSome, is_some, refl, sym, ap, subst, inl, inr}
use Rattle.std.proofs.lemmas.Bool.{false≢true}
use Rattle.plant_base.specs.{State, same, receipt_order, content_of, stamp_of, Envelope, Receipt, Refusal}
use Rattle.plant_base.specs.declared.refusal.Refusal.TheVariants.{BadForm}
use Rattle.plant_view.proofs.ListLemmas.{found_new, same_itself}
use Rattle.plant_rules.specs.{IsRepeated, is_well_formed_body, kept_among, kept_for, noted, step, step_body, wrong}
use Rattle.plant_rules.proofs.ReceiptDecisions.{decided_unformed, next_receipts, step_new}
use Rattle.plant_keeper.specs.{fold, reply}
use Rattle.plant_keeper.proofs.AppliedOnce.{acts_at_one_place}
use Rattle.plant_keeper.proofs.RefusedOrRepeated.{answered_new, refused_step, repeat_step, repeated}

-- ---- it changes nothing

taken_by : (s : State) (e : Envelope) (es : List Envelope) → (step s e ≡ s) ⊎ ((a b : List Envelope) → fold (step s e) (a ++ e ∷ b) ≡ fold (step s e) (a ++ b)) → fold (step s e) (e ∷ es) ≡ fold (step s e) es
taken_by s e es (inl idle) = ap (λ (t : State). fold (step t e) es) idle
taken_by s e es (inr idle) = idle [] es

-- nor do the commands after it lead elsewhere
pub taken_again : (s : State) (e : Envelope) (es : List Envelope) → IsSome e.reference → fold (step s e) (e ∷ es) ≡ fold (step s e) es
taken_again s e es has = taken_by s e es (acts_at_one_place s e has)

-- ---- it gets the same reply

kept_noted : (r : Option (List ℕ)) (content : List ℕ) (u : State) → IsSome r → is_some (kept_among u.receipts r) ≡ false → IsRepeated content (noted r content u).seq (kept_among (noted r content u).receipts r)
kept_noted None content u has new = absurd (false≢true has)
kept_noted (Some id) content u has new =
    subst (IsRepeated content u.seq) (sym (found_new receipt_order (record { reference = id; seq = u.seq; content = content }) (λ q. same q.reference id) u.receipts (same_itself id) new)) (refl, refl)

kept_then : (s : State) (e : Envelope) → IsSome e.reference → kept_for s e ≡ None → wrong s e ≡ None → IsRepeated (content_of e) (step s e).seq (kept_for (step s e) e)
kept_then s e has new fine =
    let u = step_body s (stamp_of e) e.body in
    let still : is_some (kept_among u.receipts e.reference) ≡ false = ap (λ (rs : List Receipt). is_some (kept_among rs e.reference)) (next_receipts s (stamp_of e) e.body) ∙ ap is_some new in
    subst (λ (t : State). IsRepeated (content_of e) t.seq (kept_for t e)) (sym (step_new s e new fine)) (kept_noted e.reference (content_of e) u has still)

whole_by : (b : Bool) (s : State) (e : Envelope) → is_well_formed_body e.body ≡ b → wrong s e ≡ None → is_well_formed_body e.body ≡ true
whole_by true s e is fine = is
whole_by false s e is fine =
    let refused : wrong s e ≡ Some BadForm = decided_unformed s e is in
    absurd (cc)

reply_by : (s : State) (e : Envelope) → IsSome e.reference → (k : Option Receipt) → kept_for s e ≡ k → (w : Option Refusal) → wrong s e ≡ w → reply (step s e) e ≡ reply s e
reply_by s e has k kept (Some r) refused = ap (λ (t : State). reply t e) (sym (refused_step s e r refused))
reply_by s e has (Some r) kept None fine = ap (λ (t : State). reply t e) (sym (repeat_step s e r kept))
reply_by s e has None new None fine =
    let again = repeated (step s e) e (step s e).seq (whole_by (is_well_formed_body e.body) s e refl fine) (kept_then s e has new fine) in
    sym again.0 ∙ answered_new s (step s e) e fine new refl

pub reply_again : (s : State) (e : Envelope) → IsSome e.reference → reply (step s e) e ≡ reply s e
reply_again s e has = reply_by s e has (kept_for s e) refl (wrong s e) refl
