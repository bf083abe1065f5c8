-- What a command over a store comes to.
use Rattle.std.proofs.Common.{◌≡◌, ◌≢◌, ◌∙◌, ℕ, ◌+◌, true, List, Option, None, Some, Result, Ok, Err, false, refl, sym, ap, subst, arith, MatchResult}
use Rattle.sqlite.specs.State as store
use Rattle.plant_base.specs.{State, content_of, stamp_of, Envelope, Refusal}
use Rattle.sql_tables.proofs.TransactionEnds.{IsStore}
use Rattle.plant_view.specs.{Decision}
use Rattle.plant_view.specs.declared.change.Decision.TheVariants as decision
use Rattle.plant_rules.specs.{step, step_body, noted, IsRepeated, IsDecision, is_well_formed_body, wrong, kept_for}
use Rattle.plant_rules.proofs.ReceiptDecisions.{next_number, step_new}
use Rattle.plant_keeper.specs.{reply, reply_by, number_of}
use Rattle.plant_questions.specs.{DeskFault, Reply}
use Rattle.plant_questions.specs.declared.reply.Reply.TheVariants.{Accepted, Refused}
use Rattle.plant_questions.specs.declared.reply.DeskFault.TheVariants.{Store, Memory, Shut}
use Rattle.plant_keeper.proofs.RefusedOrRepeated.{refused_step, repeated, answered_new}
use Rattle.plant_desk_store.specs.{IsRepeat, IsCommitted, HasDecided, HasStepped, IsDurablyAt, Executed}
use Rattle.plant_desk_store.proofs.ForeignTablesKept.{others_kept}
use Rattle.plant_desk_store.proofs.ReadingKeepsState.{before_only, still_open}

-- a receipt that is kept changes no number
noted_number : (o : Option (List ℕ)) (content : List ℕ) (t : State) → (noted o content t).seq ≡ t.seq
noted_number None content t = refl
noted_number (Some reference) content t = refl

-- each accepted command has the next number
accepted_number : (s : State) (e : Envelope) → wrong s e ≡ None → kept_for s e ≡ None → (step s e).seq ≡ s.seq + 1
accepted_number s e w new = ap (λ (t : State). t.seq) (step_new s e new w) ∙ noted_number e.reference (content_of e) (step_body s (stamp_of e) e.body) ∙ next_number s (stamp_of e) e.body

-- an accepted command is answered its number
accepted_reply : (s : State) (e : Envelope) → wrong s e ≡ None → kept_for s e ≡ None → Accepted (s.seq + 1) ≡ reply s e
accepted_reply s e w new = ap Accepted (sym (accepted_number s e w new)) ∙ answered_new s (step s e) e w new refl

refused_reply : (s : State) (e : Envelope) (r : Refusal) → wrong s e ≡ Some r → Refused r ≡ reply s e
unfolding reply
refused_reply s e r w = sym (ap (λ o. reply_by o (number_of (kept_for s e) (step s e))) w)

-- ---- the outcome

pub refused : (s : State) (new : store.State) (e : Envelope) (r : Refusal) → wrong s e ≡ Some r → IsDurablyAt new s → Executed s new e (Ok (Refused r))
refused s new e r w at = (refused_reply s e r w, subst (IsDurablyAt new) (refused_step s e r w) at)

-- a command that was accepted before
pub repeats : (s : State) (new : store.State) (e : Envelope) (n : ℕ) → is_well_formed_body e.body ≡ true → IsRepeated (content_of e) n (kept_for s e) → IsDurablyAt new s → Executed s new e (Ok (Accepted n))
repeats s new e n whole again at = let both = repeated s e n whole again in (both.0, subst (IsDurablyAt new) both.1 at)

pub committed : (s : State) (new : store.State) (e : Envelope) (r : Result Reply DeskFault) → wrong s e ≡ None → kept_for s e ≡ None → MatchResult r (λ x. x ≡ Accepted (s.seq + 1)) (λ f. f ≡ Store)
    → IsCommitted s (step s e) new r → Executed s new e r
committed s new e (Ok x) w first reported done = (reported ∙ accepted_reply s e w first, done)
committed s new e (Err f) w first reported done = subst (λ (g : DeskFault). Executed s new e (Err g)) (sym reported) done

-- nothing was begun
pub unbegun : (s : State) (new : store.State) (e : Envelope) (f : DeskFault) → f ≢ Shut → IsDurablyAt new s → Executed s new e (Err f)
unbegun s new e Store h at = before_only new s (step s e) at
unbegun s new e Memory h at = at
unbegun s new e Shut h at = h refl

-- it wasn't decided
pub undecided : (old new : store.State) (e : Envelope) (f : DeskFault) → IsStore new → old.in_transaction ≡ false → HasDecided old new e (Err f) → HasStepped e old new (Err f)
undecided old new e f laws rest read = record {
  rests = read.reads.rests rest;
  clean = λ clean. omega (arith, read.reads.crash.clean, clean);
  executed = λ clean s at. unbegun s new e f read.unshut (still_open old new s at clean (read.reads.kept clean) read.reads.crash laws);
  others = λ clean s at before others. others_kept before old new others clean (read.reads.kept clean) read.reads.crash;
  unshut = read.unshut;
  no_crash_state_added = λ nothing. read.reads.crash;
  repeated = λ clean s represents again. read.reads.crash;
}

-- ---- a command that was accepted before

-- it is decided to be a repeat, and nothing else
pub decided_repeat : (P : Type 0) (s : State) (e : Envelope) (d : Decision) → IsRepeat s e → IsDecision s e d → ((n : ℕ) → d ≡ decision.Repeat n → P) → P
decided_repeat P s e (decision.Refused r) again is reported = absurd (let both : None ≡ Some r = sym again.0 ∙ is in cc)
decided_repeat P s e (decision.Change rows) again is reported = absurd (let both : Some again.1.0 ≡ None = sym again.1.1 ∙ is.1 in cc)
decided_repeat P s e (decision.Repeat n) again is reported = reported n refl
