-- How the turn of one entry ends.
use Rattle.std.proofs.Common.{◌≡◌, ℕ, ◌<◌, List, length, Bool, false, nat_eq, Option, Result, Ok, Err, refl, sym, subst, ap, inl, inr, arith, IfErr, IfOk, IsErrAnd}
use Rattle.std.proofs.lemmas.Bool.Decides.{nat_tests}
use Rattle.std.specs.Io.KnownBytes.{Appends}
use Rattle.plant_text.proofs.KnownBytes.{Appends-nil}
use Rattle.plant_text.proofs.LineMeaning.{line_long}
use Rattle.plant_base.specs.{State, Envelope}
use Rattle.plant_keeper.specs.{States, Executes, Asks, shuts}
use Rattle.plant_questions.specs.{Answer, DeskFault, Question}
use Rattle.plant_questions.specs.declared.reply.DeskFault.TheVariants.{Store, Memory, Shut}
use Rattle.plant_text.specs.{longest_line, line_of, ChecksAs, Entry, nothing, bad, command, question, check, entry_of, entry_where, entry_text, after, is_unknown, CrashStatesOfFault, StopsAt, with_lf, AppendsPrefix, TurnEnds, FaultWritten, AnswerWritten, BadWritten}
use Rattle.plant_text_answers.specs.{fault_text, text_of_answer}
use Rattle.plant_text.specs.declared.read.Line.{Line}
use Rattle.plant_text.specs.declared.turns.TurnError.{TurnError}
use Rattle.plant_text.specs.declared.turns.TurnError.TheVariants as S
use Rattle.plant_text_checks.specs.{check_text, CheckAnswer}
use Rattle.plant_json_in.specs.{ToCheck}

pub stops_by_fault : (k : ℕ) (s : State) (e : Entry) (old new : Option (List ℕ)) (represents : States) (shut : Bool) (crash_states : States → Type 0) (f : DeskFault) (stop : TurnError)
    → FaultWritten f old new stop → CrashStatesOfFault f s e represents shut crash_states → StopsAt k s e old new represents shut crash_states stop
stops_by_fault k s e old new represents shut crash_states f S.Write w l = (with_lf (fault_text f), inr (f, refl, l), w)
stops_by_fault k s e old new represents shut crash_states f (S.Fault g) w l =
    subst (λ (h : DeskFault). Appends old new (with_lf (fault_text h)) × CrashStatesOfFault h s e represents shut crash_states) (sym w.0) (w.1, l)

pub stops_by_write_error : (k : ℕ) (s : State) (e : Entry) (old new : Option (List ℕ)) (represents : States) (shut : Bool) (crash_states : States → Type 0) (text : List ℕ)
    → text ≡ entry_text k s e → represents (after s e) → shut ≡ false → AppendsPrefix old new text → StopsAt k s e old new represents shut crash_states S.Write
stops_by_write_error k s e old new represents shut crash_states text p q r w = (text, inl (p, q, r), w)

pub command_faults : (s : State) (represents : States) (crash_states : States → Type 0) (shut : Bool) (c : Envelope) (f : DeskFault) → Executes s represents crash_states c (Err f) → shut ≡ shuts (Err f) → CrashStatesOfFault f s (command c) represents shut crash_states
command_faults s represents crash_states shut c Store p q = (p.0, (q, p.1))
command_faults s represents crash_states shut c Memory p q = (p, q)
command_faults s represents crash_states shut c Shut p q = p

pub question_faults : (k : ℕ) (s : State) (represents : States) (crash_states : States → Type 0) (shut : Bool) (q : Question) (f : DeskFault) → Asks k s represents q (Err f) → shut ≡ false → CrashStatesOfFault f s (question q) represents shut crash_states
question_faults k s represents crash_states shut q Store p r = (p, r)
question_faults k s represents crash_states shut q Memory p r = (p, r)
question_faults k s represents crash_states shut q Shut p r = p

-- the turn of a question, by its outcome and by what was written
pub question_ends : (k : ℕ) (s : State) (old new : Option (List ℕ)) (represents : States) (shut : Bool) (crash_states : States → Type 0) (q : Question) (asked : Result Answer DeskFault) (r : Result Bool TurnError)
    → Asks k s represents q asked → shut ≡ false → IfOk asked (λ a. AnswerWritten (text_of_answer a) (is_unknown a) old new r) → IfErr asked (λ f. IsErrAnd r (FaultWritten f old new))
    → TurnEnds k s (question q) old new represents shut crash_states r
question_ends k s old new represents shut crash_states q (Ok a) (Ok refused) (same, represented) is_open w none =
    (subst (λ (b : Answer). Appends old new (with_lf (text_of_answer b))) same w.0, represented, subst (λ (b : Answer). refused ≡ is_unknown b) same w.1)
question_ends k s old new represents shut crash_states q (Ok a) (Err S.Write) (same, represented) is_open (inl prefix) none =
    stops_by_write_error k s (question q) old new represents shut crash_states _ (ap (λ (b : Answer). with_lf (text_of_answer b)) same) represented is_open prefix
question_ends k s old new represents shut crash_states q (Ok a) (Err S.Write) (same, represented) is_open (inr w) none =
    stops_by_fault k s (question q) old new represents shut crash_states Memory S.Write w (represented, is_open)
question_ends k s old new represents shut crash_states q (Ok a) (Err (S.Fault f)) (same, represented) is_open w none =
    stops_by_fault k s (question q) old new represents shut crash_states Memory (S.Fault f) w (represented, is_open)
question_ends k s old new represents shut crash_states q (Err f) (Ok refused) asks is_open none w = absurd w
question_ends k s old new represents shut crash_states q (Err f) (Err stop) asks is_open none w =
    stops_by_fault k s (question q) old new represents shut crash_states f stop w (question_faults k s represents crash_states shut q f asks is_open)

check_faults : (s : State) (represents : States) (crash_states : States → Type 0) (shut : Bool) (c : ToCheck) (f : DeskFault) → ChecksAs s represents c (Err f) → shut ≡ false → CrashStatesOfFault f s (check c) represents shut crash_states
check_faults s represents crash_states shut c Store p r = (p.1, (p.0, r))
check_faults s represents crash_states shut c Memory p r = (p.1, r)
check_faults s represents crash_states shut c Shut p r = p

-- the same of a check
pub check_ends : (k : ℕ) (s : State) (old new : Option (List ℕ)) (represents : States) (shut : Bool) (crash_states : States → Type 0) (c : ToCheck) (checked : Result CheckAnswer DeskFault) (r : Result Bool TurnError)
    → ChecksAs s represents c checked → shut ≡ false → IfOk checked (λ a. AnswerWritten (check_text a) false old new r) → IfErr checked (λ f. IsErrAnd r (FaultWritten f old new))
    → TurnEnds k s (check c) old new represents shut crash_states r
check_ends k s old new represents shut crash_states c (Ok a) (Ok refused) (same, represented) is_open w none =
    (subst (λ (b : CheckAnswer). Appends old new (with_lf (check_text b))) same w.0, represented, w.1)
check_ends k s old new represents shut crash_states c (Ok a) (Err S.Write) (same, represented) is_open (inl prefix) none =
    stops_by_write_error k s (check c) old new represents shut crash_states _ (ap (λ (b : CheckAnswer). with_lf (check_text b)) same) represented is_open prefix
check_ends k s old new represents shut crash_states c (Ok a) (Err S.Write) (same, represented) is_open (inr w) none =
    stops_by_fault k s (check c) old new represents shut crash_states Memory S.Write w (represented, is_open)
check_ends k s old new represents shut crash_states c (Ok a) (Err (S.Fault f)) (same, represented) is_open w none =
    stops_by_fault k s (check c) old new represents shut crash_states Memory (S.Fault f) w (represented, is_open)
check_ends k s old new represents shut crash_states c (Err f) (Ok refused) checks is_open none w = absurd w
check_ends k s old new represents shut crash_states c (Err f) (Err stop) checks is_open none w =
    stops_by_fault k s (check c) old new represents shut crash_states f stop w (check_faults s represents crash_states shut c f checks is_open)

pub bad_ends : (k : ℕ) (s : State) (old new : Option (List ℕ)) (represents : States) (shut : Bool) (crash_states : States → Type 0) (r : Result Bool TurnError)
    → BadWritten old new r → represents s → shut ≡ false → TurnEnds k s bad old new represents shut crash_states r
bad_ends k s old new represents shut crash_states (Ok refused) w represented q = (w.0, represented, w.1)
bad_ends k s old new represents shut crash_states (Err S.Write) w represented q = (_, inl (refl, represented, q), w)
bad_ends k s old new represents shut crash_states (Err (S.Fault f)) w represented q = absurd w

-- ---- what a line is

pub entry_empty : (line : List ℕ) → length line ≡ 0 → entry_of line ≡ nothing
unfolding entry_of
entry_empty line h = rw h refl

pub entry_long : (line : List ℕ) → longest_line < length line → entry_of line ≡ bad
unfolding entry_of
entry_long line h =
    let some : nat_eq (length line) 0 ≡ false = grind (arith, nat_tests) in
    rw (some, line_long line h) refl

pub entry_read : (line : List ℕ) (o : Option Line) → 0 < length line → line_of line ≡ o → entry_of line ≡ entry_where o
unfolding entry_of
entry_read line o h e =
    let some : nat_eq (length line) 0 ≡ false = grind (arith, nat_tests) in
    rw (some, e) refl

pub nothing_ends : (k : ℕ) (s : State) (old : Option (List ℕ)) (represents : States) (shut : Bool) (crash_states : States → Type 0) → represents s → TurnEnds k s nothing old old represents shut crash_states (Ok false)
nothing_ends k s old represents shut crash_states represented = (Appends-nil old, represented, refl)
