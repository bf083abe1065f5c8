-- Where a command leaves a keeper of lists.
use Rattle.std.proofs.Common.{◌≡◌, ◌∙◌, Option, Some, None, Result, Ok, Err, IfOk, OnOk, OnErr, true, refl, subst, sym}
use Rattle.plant_base.specs.{State, HasValues, Envelope, Refusal}
use Rattle.plant_view.specs.DecisionInvariant.{DecisionInvariant}
use Rattle.plant_rules.specs.{step, wrong, kept_for}
use Rattle.plant_keeper.specs.{writes_nothing, reply, reply_by, number_of}
use Rattle.plant_keeper.proofs.RefusedOrRepeated.{refused_step}
use Rattle.plant_questions.specs.{DeskFault, Reply}
use Rattle.plant_questions.specs.declared.reply.Reply.TheVariants.{Accepted, Refused}
use Rattle.plant_rules.proofs.StepPreservesInvariant.{step_preserves_invariant}

-- a state that is either the one before or the next is consistent
pub kept : {T E : Type 0} (r : Result T E) (s new : State) (e : Envelope) → DecisionInvariant s → HasValues e → OnOk r (new ≡ step s e) → OnErr r (new ≡ s) → DecisionInvariant new
kept (Ok x) s new e sound values ok err = subst DecisionInvariant (sym ok) (step_preserves_invariant s sound e values)
kept (Err x) s new e sound values ok err = subst DecisionInvariant (sym err) sound

refused_by : (s : State) (e : Envelope) (r : Refusal) (o : Option Refusal) → wrong s e ≡ o → Refused r ≡ reply_by o (number_of (kept_for s e) (step s e)) → s ≡ step s e
refused_by s e r None w said = absurd (cc)
refused_by s e r (Some other) w said = refused_step s e other w

refused_stays : (s : State) (e : Envelope) (r : Refusal) → Refused r ≡ reply s e → s ≡ step s e
unfolding reply
refused_stays s e r said = refused_by s e r (wrong s e) refl said

-- where nothing is written the state stays
pub write_error : (r : Result Reply DeskFault) (s new : State) (e : Envelope) → IfOk r (λ said. said ≡ reply s e) → OnOk r (new ≡ step s e) → OnErr r (new ≡ s)
    → writes_nothing r ≡ true → s ≡ new
write_error (Ok (Accepted n)) s new e said ok err nothing = absurd (cc)
write_error (Ok (Refused r)) s new e said ok err nothing = refused_stays s e r said ∙ sym ok
write_error (Err fault) s new e said ok err nothing = sym err
