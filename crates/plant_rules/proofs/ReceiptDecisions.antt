-- Decisions of commands with references.
use Rattle.std.proofs.Common.{◌≡◌, ◌∙◌, ◌+◌, ◌<◌, ℕ, Bool, true, false, List, [], ◌∷◌, ◌++◌, Some, None, refl, sym, ap, subst, nat_lt, not, if◌then◌else◌, Result, Ok, Err, IfOk}
use Rattle.plant_base.specs.{greatest_seq, State, same, newest_schema, content_of, stamp_of, Command, Envelope, Receipt, Stamp}
use Rattle.plant_base.specs.declared.refusal.Refusal.TheVariants.{BadForm, MomentBack, RefReused}
use Rattle.plant_base.specs.declared.commands.Command.TheVariants as body
use Rattle.plant_view.proofs.ListLemmas.{same_id}
use Rattle.plant_view.specs.{refuse, tables_of, changed, changed_all, Decides, Decision}
use Rattle.plant_view.proofs.CommandsPreserveInvariant.{passed}
use Rattle.plant_view.specs.declared.change.RowChange.TheVariants as row
use Rattle.plant_view.specs.declared.change.Decision.TheVariants.{Change, Refused, Repeat}
use Rattle.plant_rules.specs.{is_well_formed_body, wrong, wrong_body, wrong_there, decoded, kept_among, kept_for, step, step_body, unless_refused, noted, taken, IsRepeated, IsDecision, IsNoted, again_of}
use Rattle.plant_rules.proofs.EdgeRowChanges.{changed_append}
use Rattle.plant_rules.proofs.AcceptedHasNumber.{number_left}

-- each accepted command has the next number
pub next_number : (s : State) (t : Stamp) (c : Command) → (step_body s t c).seq ≡ s.seq + 1
next_number s t (body.AddClass c) = refl
next_number s t _ = refl

-- no command looks at receipts, or changes one
pub next_receipts : (s : State) (t : Stamp) (c : Command) → (step_body s t c).receipts ≡ s.receipts
next_receipts s t (body.AddClass c) = refl
next_receipts s t _ = refl

pub blind_step : (s : State) (t : Stamp) (c : Command) (rs : List Receipt) → step_body (record s { receipts = rs }) t c ≡ record (step_body s t c) { receipts = rs }
blind_step s t (body.AddClass c) rs = refl
blind_step s t _ rs = refl

pub blind_wrong : (s : State) (c : Command) (rs : List Receipt) → wrong_body (record s { receipts = rs }) c ≡ wrong_body s c
blind_wrong s (body.AddClass c) rs = refl
blind_wrong s _ rs = refl

-- ---- decisions

-- after the first condition a command goes on where its reference isn't kept
pub wrong_new : (s : State) (e : Envelope) → is_well_formed_body e.body ≡ true → kept_for s e ≡ None → wrong s e ≡ wrong_there s e
unfolding wrong
wrong_new s e whole new = (λ i. refuse (not (whole i)) BadForm (decoded (new i) (content_of e) (wrong_there s e)))

pub step_new : (s : State) (e : Envelope) → kept_for s e ≡ None → wrong s e ≡ None → step s e ≡ noted e.reference (content_of e) (step_body s (stamp_of e) e.body)
unfolding step
step_new s e new fine = λ i. unless_refused (fine i) s (taken (new i) s e)

-- a decision with no receipt to be written
pub decided_plain : (s : State) (e : Envelope) → is_well_formed_body e.body ≡ true → e.reference ≡ None → (d : Decision) → Decides (wrong_there s e) s (step_body s (stamp_of e) e.body) d → IsDecision s e d
decided_plain s e whole unnamed d = by d
  where
    new : kept_for s e ≡ None
    new = ap (kept_among s.receipts) unnamed

    by : (d : Decision) → Decides (wrong_there s e) s (step_body s (stamp_of e) e.body) d → IsDecision s e d
    by (Refused r) h = wrong_new s e whole new ∙ h
    by (Change rows) h =
        let fine : wrong s e ≡ None = wrong_new s e whole new ∙ h.0 in
        (fine, new, h.1 ∙ ap (tables_of newest_schema) (sym (step_new s e new fine ∙ ap (λ r. noted r (content_of e) (step_body s (stamp_of e) e.body)) unnamed)))
    by (Repeat n) h = absurd h

-- a refusal before the reference
pub decided_unformed : (s : State) (e : Envelope) → is_well_formed_body e.body ≡ false → IsDecision s e (Refused BadForm)
unfolding wrong
decided_unformed s e unformed = λ i. refuse (not (unformed i)) BadForm (decoded (kept_for s e) (content_of e) (wrong_there s e))

-- a decision with its receipt
pub decided_noted : (s : State) (e : Envelope) (reference : List ℕ) (number : ℕ) → is_well_formed_body e.body ≡ true → e.reference ≡ Some reference → kept_for s e ≡ None → (s.seq < greatest_seq → number ≡ s.seq + 1)
    → (d made : Decision) → Decides (wrong_there s e) s (step_body s (stamp_of e) e.body) d → IsNoted number reference (content_of e) d made → IsDecision s e made
decided_noted s e reference number whole named new numbered d made = by d
  where
    next : State
    next = step_body s (stamp_of e) e.body

    receipt : ℕ → Receipt
    receipt n = record { reference = reference; seq = n; content = content_of e }

    by : (d : Decision) → Decides (wrong_there s e) s (step_body s (stamp_of e) e.body) d → IsNoted number reference (content_of e) d made → IsDecision s e made
    by (Refused r) h is = subst (IsDecision s e) (sym is) (wrong_new s e whole new ∙ h)
    by (Change rows) h is =
        let fine : wrong s e ≡ None = wrong_new s e whole new ∙ h.0 in
        let left : s.seq < greatest_seq = number_left s e.body (passed (nat_lt e.at s.at) MomentBack (wrong_body s e.body) h.0).1 in
        let is_next : number ≡ (step_body s (stamp_of e) e.body).seq = numbered left ∙ sym (next_number s (stamp_of e) e.body) in
        let after : step s e ≡ noted (Some reference) (content_of e) (step_body s (stamp_of e) e.body) = step_new s e new fine ∙ ap (λ r. noted r (content_of e) (step_body s (stamp_of e) e.body)) named in
        let rows_lead : changed_all (rows ++ row.Receipt (receipt number) ∷ []) (tables_of newest_schema s) ≡ tables_of newest_schema (noted (Some reference) (content_of e) (step_body s (stamp_of e) e.body)) =
        changed_append rows (row.Receipt (receipt number) ∷ []) (tables_of newest_schema s) ∙ (λ i. changed (row.Receipt (receipt (is_next i))) (h.1 i)) in
        subst (IsDecision s e) (sym is) (fine, new, rows_lead ∙ ap (tables_of newest_schema) (sym after))
    by (Repeat n) h is = absurd h

-- a command whose reference is kept
pub decided_again : (s : State) (e : Envelope) (r : Receipt) → is_well_formed_body e.body ≡ true → kept_for s e ≡ Some r → IsDecision s e (again_of r (content_of e))
unfolding wrong
decided_again s e r whole kept = by (same r.content (content_of e)) refl
  where
    decoded_wrong : wrong s e ≡ decoded (Some r) (content_of e) (wrong_there s e)
    decoded_wrong = λ i. refuse (not (whole i)) BadForm (decoded (kept i) (content_of e) (wrong_there s e))

    by : (b : Bool) → same r.content (content_of e) ≡ b → IsDecision s e (if b then Repeat r.seq else Refused RefReused)
    by true t = (whole, subst (IsRepeated (content_of e) r.seq) (sym kept) (refl, same_id r.content (content_of e) t))
    by false t = decoded_wrong ∙ ap (λ b. if b then None else Some RefReused) t

-- what holds of an answer
pub each_ok : {T E : Type 0} {P Q : T → Type 0} → ((x : T) → P x → Q x) → (r : Result T E) → IfOk r P → IfOk r Q
each_ok f (Ok x) h = f x h
each_ok f (Err e) h = tt
