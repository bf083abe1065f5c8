-- Replicas are at one state, and reply and answer alike.
use Rattle.std.proofs.Common.{◌≡◌, ◌∙◌, false, List, [], ◌∷◌, zip, IsSome, sym, ap, ap₂, subst, inl, inr}
use Rattle.sqlite.specs.Held.{Held}
use Rattle.sqlite_trees.specs.declared.store.Store.{Ghosts}
use Rattle.plant_base.specs.{State, Envelope}
use Rattle.plant_rules.specs.{step}
use Rattle.plant_keeper.specs.{fold, replies, reply}
use Rattle.plant_questions.specs.{Reply}
use Rattle.plant_desk_store.specs.{Attempt, acknowledged, in_flight, PossibleOutcome, StorePhase, desk, IsSoAt, AreAnsweredInOrder, AreReferenced, AreSentInOrder, IsReplica, ReplicasAgree, ReplicasAnswerAlike, ReplicasReplyAlike}
use Rattle.plant_desk_store.proofs.HeadlineByInduction.{so_from}
use Rattle.plant_desk_store.proofs.RepliesAreRepeated.{reply_again, taken_again}

taken : {d e : Envelope} (s u : State) (more : List Attempt) → d ≡ e → PossibleOutcome (step s d) more u → PossibleOutcome (step s e) more u
taken s u more same lead = subst (λ (f : Envelope). PossibleOutcome (step s f) more u) same lead

-- wherever they may have led, that is where the commands lead
led : (commands : List Envelope) (list : List Attempt) (s u : State) → AreReferenced commands → AreSentInOrder commands list → PossibleOutcome s list u → u ≡ fold s commands
led [] [] s u have sent lead = lead
led [] (x ∷ more) s u have sent lead = absurd sent
led (e ∷ commands) [] s u have sent lead = absurd sent
led (e ∷ commands) (acknowledged d r ∷ more) s u have (same, inl sent) lead = led commands more (step s e) u have.1 sent (taken s u more same lead.1)
led (e ∷ commands) (acknowledged d r ∷ more) s u have (same, inr sent) lead = led (e ∷ commands) more (step s e) u have sent (taken s u more same lead.1) ∙ taken_again s e commands have.0
led (e ∷ commands) (in_flight d ∷ more) s u have (same, sent) (inl lead) = led (e ∷ commands) more s u have sent lead
led (e ∷ commands) (in_flight d ∷ more) s u have (same, sent) (inr lead) = led (e ∷ commands) more (step s e) u have sent (taken s u more same lead) ∙ taken_again s e commands have.0

-- replies where the first command was taken already
replies_again : (s : State) (e : Envelope) (commands : List Envelope) → IsSome e.reference → replies (step s e) (e ∷ commands) ≡ replies s (e ∷ commands)
replies_again s e commands has = ap₂ (λ (r : Reply) (t : State). r ∷ replies t commands) (reply_again s e has) (taken_again s e [] has)

abbrev AreAnsweredAt : State → List Envelope → List Attempt → Type 0
AreAnsweredAt s commands list = AreAnsweredInOrder (zip commands (replies s commands)) list

repeats : (s : State) (e : Envelope) (commands : List Envelope) (list : List Attempt) → IsSome e.reference → AreAnsweredAt (step s e) (e ∷ commands) list → AreAnsweredAt s (e ∷ commands) list
repeats s e commands list has later = subst (λ (rs : List Reply). AreAnsweredInOrder (zip (e ∷ commands) rs) list) (replies_again s e commands has) later

answered_at : {d e : Envelope} {r : Reply} (s : State) → d ≡ e → r ≡ reply s d → r ≡ reply s e
answered_at s same is = is ∙ ap (reply s) same

replied : (commands : List Envelope) (list : List Attempt) (s u : State) → AreReferenced commands → AreSentInOrder commands list → PossibleOutcome s list u → AreAnsweredAt s commands list
replied [] [] s u have sent lead = tt
replied [] (x ∷ more) s u have sent lead = absurd sent
replied (e ∷ commands) [] s u have sent lead = absurd sent
replied (e ∷ commands) (acknowledged d r ∷ more) s u have (same, inl sent) lead = (same, answered_at s same lead.0, inl (replied commands more (step s e) u have.1 sent (taken s u more same lead.1)))
replied (e ∷ commands) (acknowledged d r ∷ more) s u have (same, inr sent) lead =
    (same, answered_at s same lead.0, inr (repeats s e commands more have.0 (replied (e ∷ commands) more (step s e) u have sent (taken s u more same lead.1))))
replied (e ∷ commands) (in_flight d ∷ more) s u have (same, sent) (inl lead) = (same, replied (e ∷ commands) more s u have sent lead)
replied (e ∷ commands) (in_flight d ∷ more) s u have (same, sent) (inr lead) = (same, repeats s e commands more have.0 (replied (e ∷ commands) more (step s e) u have sent (taken s u more same lead)))

pub replicas_reply_alike : {S : Type 0} (g : Ghosts S) → ReplicasReplyAlike g
replicas_reply_alike g s commands have c phase is =
    let it = so_from g s is.first c phase is.attempts is.begins is.newly is.execution is.clean in
    replied commands is.attempts s it.0 have is.sent it.1

so_of : {S : Type 0} (g : Ghosts S) (s : State) (commands : List Envelope) (c : Held S) (phase : StorePhase) → AreReferenced commands → IsReplica g s commands c phase → IsSoAt g c (fold s commands) phase
so_of g s commands c phase have is =
    let it = so_from g s is.first c phase is.attempts is.begins is.newly is.execution is.clean in
    subst (λ (u : State). IsSoAt g c u phase) (led commands is.attempts s it.0 have is.sent it.1) it.2

pub replicas_agree : {S T : Type 0} (g : Ghosts S) (h : Ghosts T) → ReplicasAgree g h
replicas_agree g h s commands have c d phase other one two = (so_of g s commands c phase have one, so_of h s commands d other have two)

pub replicas_answer_alike : {S T : Type 0} (g : Ghosts S) (h : Ghosts T) → ReplicasAnswerAlike g h
replicas_answer_alike g h s commands have c after d later one two q a b asked clean other_asked other_clean =
    let here = so_of g s commands c (desk false) have one in
    let there = so_of h s commands d (desk false) have two in
    (here.reported q a after asked clean).answered ∙ sym (there.reported q b later other_asked other_clean).answered
