-- What a keeper did that was asked a question.
use Rattle.std.proofs.Common.{◌≡◌, ℕ, Result, Ok, Err, subst, sym, IfOk}
use Rattle.plant_base.specs.{State}
use Rattle.plant_answers.specs.{answer}
use Rattle.plant_keeper.specs.{States, Asks}
use Rattle.plant_questions.specs.{Answer, DeskFault, Question}
use Rattle.plant_questions.specs.declared.question.Answer.TheVariants as A
use Rattle.plant_questions.specs.declared.question.Question.TheVariants as Q
use Rattle.plant_questions.specs.declared.reply.DeskFault.TheVariants.{Store, Memory, Shut}
use Rattle.desk_program.specs.{summary_of}
use Rattle.desk_program.specs.declared.fault.ProgramFault.{ProgramFault}
use Rattle.desk_program.specs.declared.summary.DeskSummary.{DeskSummary}

-- it represents what it represented
pub asked_stays : (k : ℕ) (s : State) (represents : States) (q : Question) (asked : Result Answer DeskFault) → Asks k s represents q asked → represents s
asked_stays k s represents q (Ok a) h = h.1
asked_stays k s represents q (Err Store) h = h
asked_stays k s represents q (Err Memory) h = h
asked_stays k s represents q (Err Shut) h = absurd h

-- its answer is the definitions'
pub asked_answer : (k : ℕ) (s : State) (represents : States) (q : Question) (asked : Result Answer DeskFault) → Asks k s represents q asked → IfOk asked (λ a. a ≡ answer k s q)
asked_answer k s represents q (Ok a) h = h.0
asked_answer k s represents q (Err f) h = tt

at_of : (k : ℕ) (s : State) (schema seq : ℕ) → A.Desk schema seq ≡ answer k s Q.Desk → (schema ≡ k) × (seq ≡ s.seq)
unfolding answer
at_of k s schema seq h = let e : A.Desk schema seq ≡ A.Desk k s.seq = h in (cc, cc)

represents_where : (k : ℕ) (s : State) (represents : States) (asked : Result Answer DeskFault) → Asks k s represents Q.Desk asked
    → IfOk (summary_of asked) (λ at. (at.schema ≡ k) × (at.seq ≡ s.seq))
represents_where k s represents (Ok (A.Desk schema seq)) h = at_of k s schema seq h.0
represents_where k s represents (Ok _) h = tt
represents_where k s represents (Err f) h = tt

-- its summary by its answer is its own
pub asked_summary : (k : ℕ) (s : State) (represents : States) (asked : Result Answer DeskFault) (reported : Result DeskSummary ProgramFault)
    → Asks k s represents Q.Desk asked → reported ≡ summary_of asked → IfOk reported (λ at. (at.schema ≡ k) × (at.seq ≡ s.seq))
asked_summary k s represents asked reported h e =
    subst (λ (r : Result DeskSummary ProgramFault). IfOk r (λ at. (at.schema ≡ k) × (at.seq ≡ s.seq))) (sym e) (represents_where k s represents asked h)
