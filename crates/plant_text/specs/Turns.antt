-- How the parts of a run end.
use Rattle.std.specs.Prelude.{◌≡◌, ℕ, List, [], ◌∷◌, ◌++◌, Bool, true, false, Option, Result, Ok, Err, ◌⊎◌}
use Rattle.std.specs.Io.KnownBytes.{Appends}
use Rattle.plant_base.specs.{State}
use Rattle.plant_base.specs.declared.refusal.Refusal.TheVariants.{BadForm}
use Rattle.plant_keeper.specs.{States}
use Rattle.plant_questions.specs.declared.reply.Reply.TheVariants.{Refused}
use Rattle.plant_questions.specs.{DeskFault}
use Rattle.plant_questions.specs.declared.reply.DeskFault.TheVariants.{Memory}
use Rattle.plant_text_answers.specs.{reply_text, fault_text}
use Rattle.plant_text.specs.Writes.{with_lf, AppendsPrefix}
use Rattle.plant_text.specs.Session.{Entry, entry_text, after, is_refused, AreAnswered, StopsAt, RunStopped}
use Rattle.plant_text.specs.declared.run.RunEnd.{RunEnd}
use Rattle.plant_text.specs.declared.run.RunEnd.TheVariants as E
use Rattle.plant_text.specs.declared.turns.TurnError.{TurnError}
use Rattle.plant_text.specs.declared.turns.TurnError.TheVariants as S

-- how the turn of one entry ends
abbrev pub TurnEnds : ℕ → State → Entry → Option (List ℕ) → Option (List ℕ) → States → Bool → (States → Type 0) → Result Bool TurnError → Type 0
TurnEnds k s e old new represents shut crash_states (Ok refused) = Appends old new (entry_text k s e) × represents (after s e) × (refused ≡ is_refused k s e)
TurnEnds k s e old new represents shut crash_states (Err stop) = StopsAt k s e old new represents shut crash_states stop

-- what was written of a fault's line, by how the run stops
abbrev pub FaultWritten : DeskFault → Option (List ℕ) → Option (List ℕ) → TurnError → Type 0
FaultWritten f old new S.Write = AppendsPrefix old new (with_lf (fault_text f))
FaultWritten f old new (S.Fault g) = (g ≡ f) × Appends old new (with_lf (fault_text f))

-- what was written of an answer of this text: it, or the line of want of memory where it couldn't be made
abbrev pub AnswerWritten : List ℕ → Bool → Option (List ℕ) → Option (List ℕ) → Result Bool TurnError → Type 0
AnswerWritten text unknown old new (Ok refused) = Appends old new (with_lf text) × (refused ≡ unknown)
AnswerWritten text unknown old new (Err S.Write) = AppendsPrefix old new (with_lf text) ⊎ FaultWritten Memory old new S.Write
AnswerWritten text unknown old new (Err (S.Fault f)) = FaultWritten Memory old new (S.Fault f)

-- what was written of a bad line's reply
abbrev pub BadWritten : Option (List ℕ) → Option (List ℕ) → Result Bool TurnError → Type 0
BadWritten old new (Ok refused) = Appends old new (with_lf (reply_text (Refused BadForm))) × (refused ≡ true)
BadWritten old new (Err S.Write) = AppendsPrefix old new (with_lf (reply_text (Refused BadForm)))
BadWritten old new (Err (S.Fault f)) = ⊥

-- how the bytes of one read end: an error stops before whatever entry comes next
abbrev pub PieceEnds : ℕ → State → List Entry → Option (List ℕ) → Option (List ℕ) → States → Bool → (States → Type 0) → Bool → Result Bool TurnError → Type 0
PieceEnds k s es old new represents shut crash_states before (Ok refused) = AreAnswered k s es old new represents before refused
PieceEnds k s es old new represents shut crash_states before (Err stop) = (e : Entry) → RunStopped k s (es ++ e ∷ []) old new represents shut crash_states stop

abbrev pub end_of : TurnError → RunEnd
end_of S.Write = E.Write
end_of (S.Fault f) = E.Fault f

-- how the last line ends, which has no LF
abbrev pub LastEnds : ℕ → State → Entry → Option (List ℕ) → Option (List ℕ) → States → Bool → (States → Type 0) → Bool → RunEnd → Type 0
LastEnds k s e old new represents shut crash_states before (E.Done refused) = AreAnswered k s (e ∷ []) old new represents before refused × (shut ≡ false)
LastEnds k s e old new represents shut crash_states before E.Read = ⊥
LastEnds k s e old new represents shut crash_states before E.Endless = ⊥
LastEnds k s e old new represents shut crash_states before E.Write = RunStopped k s (e ∷ []) old new represents shut crash_states S.Write
LastEnds k s e old new represents shut crash_states before (E.Fault f) = RunStopped k s (e ∷ []) old new represents shut crash_states (S.Fault f)
