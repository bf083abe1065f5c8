-- What is written for the lines of an input, and what the keeper represents then.
use Rattle.std.specs.Prelude.{◌≡◌, ℕ, ◌≤◌, ◌==◌, ◌||◌, List, [], ◌∷◌, ◌++◌, length, map, Bool, true, false, if◌then◌else◌, Option, Some, None, ◌⊎◌}
use Rattle.std.specs.Str.Lines.{strip_carriage_return, lines}
use Rattle.std.specs.Io.KnownBytes.{Appends, IsAtEnd}
use Rattle.plant_base.specs.{State, Envelope}
use Rattle.plant_base.specs.declared.refusal.Refusal.TheVariants.{BadForm}
use Rattle.plant_rules.specs.{step}
use Rattle.plant_keeper.specs.{reply, States}
use Rattle.plant_answers.specs.{answer}
use Rattle.plant_questions.specs.{Answer, DeskFault, Question, Reply}
use Rattle.plant_questions.specs.declared.question.Answer.TheVariants as A
use Rattle.plant_questions.specs.declared.reply.Reply.TheVariants.{Accepted, Refused}
use Rattle.plant_questions.specs.declared.reply.DeskFault.TheVariants.{Store, Memory, Shut}
use Rattle.plant_text.specs.Lines.{line_of}
use Rattle.plant_text_answers.specs.{reply_text, fault_text, text_of_answer}
use Rattle.plant_text_checks.specs.{check_text, check_answer}
use Rattle.plant_json_in.specs.{ToCheck}
use Rattle.plant_text.specs.Checks.{IsCommand}
use Rattle.plant_text.specs.Writes.{with_lf, AppendsPrefix}
use Rattle.plant_text.specs.declared.read.Line.{Line}
use Rattle.plant_text.specs.declared.read.Line.TheVariants as L
use Rattle.plant_text.specs.declared.run.RunEnd.{RunEnd}
use Rattle.plant_text.specs.declared.run.RunEnd.TheVariants as E
use Rattle.plant_text.specs.declared.turns.TurnError.{TurnError}
use Rattle.plant_text.specs.declared.turns.TurnError.TheVariants as S

-- ---- lines

-- the lines that an LF ends, where `part` comes before the bytes; one CR before the LF is dropped
abbrev pub ended_from : List ℕ → List ℕ → List (List ℕ)
ended_from part [] = []
ended_from part (b ∷ bs) = if b == 10 then strip_carriage_return part ∷ ended_from [] bs else ended_from (part ++ b ∷ []) bs

-- what comes after the last LF
abbrev pub part_from : List ℕ → List ℕ → List ℕ
part_from part [] = part
part_from part (b ∷ bs) = if b == 10 then part_from [] bs else part_from (part ++ b ∷ []) bs

-- the lines whose LF was read
abbrev pub ended_lines : List ℕ → List (List ℕ)
ended_lines bytes = ended_from [] bytes

-- these and what comes after them, which may be empty
abbrev pub all_lines : List ℕ → List (List ℕ)
all_lines bytes = ended_lines bytes ++ part_from [] bytes ∷ []

-- ---- what a line is to a session

pub data Entry : Type 0 where
  nothing : Entry
  bad : Entry
  command : Envelope → Entry
  question : Question → Entry
  check : ToCheck → Entry

abbrev pub entry_where : Option Line → Entry
entry_where None = bad
entry_where (Some (L.Command c)) = command c
entry_where (Some (L.Question q)) = question q
entry_where (Some (L.Check c)) = check c

-- an empty line is nothing, and any other that says nothing is bad
unfoldable pub entry_of : List ℕ → Entry
entry_of line = if length line == 0 then nothing else entry_where (line_of line)

abbrev pub entries : List (List ℕ) → List Entry
entries ls = map entry_of ls

-- ---- what is written, by a keeper of schema k

-- an empty line has no reply
abbrev pub entry_text : ℕ → State → Entry → List ℕ
entry_text k s nothing = []
entry_text k s bad = with_lf (reply_text (Refused BadForm))
entry_text k s (command c) = with_lf (reply_text (reply s c))
entry_text k s (question q) = with_lf (text_of_answer (answer k s q))
entry_text k s (check c) = with_lf (check_text (check_answer s c))

abbrev pub after : State → Entry → State
after s nothing = s
after s bad = s
after s (command c) = step s c
after s (question q) = s
after s (check c) = s

abbrev pub is_refusal : Reply → Bool
is_refusal (Accepted n) = false
is_refusal (Refused r) = true

abbrev pub is_unknown : Answer → Bool
is_unknown (A.Unknown r) = true
is_unknown _ = false

-- whether the reply is a refusal; that a command would be refused is an answer
abbrev pub is_refused : ℕ → State → Entry → Bool
is_refused k s nothing = false
is_refused k s bad = true
is_refused k s (command c) = is_refusal (reply s c)
is_refused k s (question q) = is_unknown (answer k s q)
is_refused k s (check c) = false

-- the replies to entries, each in the state after those before it
abbrev pub texts : ℕ → State → List Entry → List ℕ
texts k s [] = []
texts k s (e ∷ es) = entry_text k s e ++ texts k (after s e) es

abbrev pub fold : State → List Entry → State
fold s [] = s
fold s (e ∷ es) = fold (after s e) es

abbrev pub some_refused : ℕ → State → List Entry → Bool
some_refused k s [] = false
some_refused k s (e ∷ es) = is_refused k s e || some_refused k (after s e) es

-- what is written for an input, whose lines are std's: a run that is done appends it
abbrev pub session : ℕ → State → List ℕ → List ℕ
session k s bytes = texts k s (entries (lines bytes))

-- ---- what a run has done

-- these entries have been answered: their replies were written, and the keeper, which represented s, represents their fold
pub record AreAnswered (k : ℕ) (s : State) (es : List Entry) (old new : Option (List ℕ)) (represents : States) (before now : Bool) : Type 0 where
  pub text : Appends old new (texts k s es)
  pub state : represents (fold s es)
  pub refused : now ≡ (before || some_refused k s es)

-- what a fault of the store leaves, which comes from a command, a question or a check of a command alone: a command shuts
-- the keeper, and a stop leaves the state before it or after it
abbrev pub CrashStatesOfStoreFault : State → Entry → Bool → (States → Type 0) → Type 0
CrashStatesOfStoreFault s nothing shut crash_states = ⊥
CrashStatesOfStoreFault s bad shut crash_states = ⊥
CrashStatesOfStoreFault s (command c) shut crash_states = (shut ≡ true) × crash_states (λ u. (u ≡ s) ⊎ (u ≡ step s c))
CrashStatesOfStoreFault s (question q) shut crash_states = shut ≡ false
CrashStatesOfStoreFault s (check c) shut crash_states = IsCommand c × (shut ≡ false)

-- what a fault leaves of a keeper that represented s as the entry e came
abbrev pub CrashStatesOfFault : DeskFault → State → Entry → States → Bool → (States → Type 0) → Type 0
CrashStatesOfFault Store s e represents shut crash_states = represents s × CrashStatesOfStoreFault s e shut crash_states
CrashStatesOfFault Memory s e represents shut crash_states = represents s × (shut ≡ false)
CrashStatesOfFault Shut s e represents shut crash_states = ⊥

-- the text that comes next, and the keeper then: the reply to e, or a fault's line
abbrev pub ComesNext : ℕ → State → Entry → List ℕ → States → Bool → (States → Type 0) → Type 0
ComesNext k s e text represents shut crash_states = ((text ≡ entry_text k s e) × represents (after s e) × (shut ≡ false))
    ⊎ ((f : DeskFault) × (text ≡ with_lf (fault_text f)) × CrashStatesOfFault f s e represents shut crash_states)

-- how a run stops at the entry e: in its next text, or after a fault's line
abbrev pub StopsAt : ℕ → State → Entry → Option (List ℕ) → Option (List ℕ) → States → Bool → (States → Type 0) → TurnError → Type 0
StopsAt k s e old new represents shut crash_states S.Write = (text : List ℕ) × ComesNext k s e text represents shut crash_states × AppendsPrefix old new text
StopsAt k s e old new represents shut crash_states (S.Fault f) = Appends old new (with_lf (fault_text f)) × CrashStatesOfFault f s e represents shut crash_states

-- some of the entries were answered, and the run stopped at the next one
pub record RunStopped (k : ℕ) (s : State) (es : List Entry) (old new : Option (List ℕ)) (represents : States) (shut : Bool) (crash_states : States → Type 0) (stop : TurnError) : Type 0 where
  pub answered : List Entry
  pub next : Entry
  pub more : List Entry
  pub cut : es ≡ answered ++ next ∷ more
  pub between : Option (List ℕ)
  pub reported : Appends old between (texts k s answered)
  pub stops : StopsAt k (fold s answered) next between new represents shut crash_states stop

-- the most reads that a run makes
abbrev pub most_reads : ℕ
most_reads = 1000000000

-- The run stopped: at the end of the input at any line; else at a line whose LF was read, or after these for want of
-- memory. For what comes after the last LF counts there as an empty line: nothing of it is executed or answered.
abbrev pub StoppedAmong : ℕ → State → List ℕ → Option (List ℕ) → Option (List ℕ) → Option (List ℕ) → States → Bool → (States → Type 0) → TurnError → Type 0
StoppedAmong k s bytes left old new represents shut crash_states stop =
    (IsAtEnd left × RunStopped k s (entries (all_lines bytes)) old new represents shut crash_states stop)
    ⊎ RunStopped k s (entries (ended_lines bytes) ++ nothing ∷ []) old new represents shut crash_states stop

-- how a run of so many reads at most over these bytes ended, where `left` is what the reader has left; each read took a
-- byte at least, so that an endless run has read as many bytes
abbrev pub EndsWithin : ℕ → ℕ → State → List ℕ → Option (List ℕ) → Option (List ℕ) → Option (List ℕ) → States → Bool → (States → Type 0) → RunEnd → Type 0
EndsWithin most k s bytes left old new represents shut crash_states (E.Done refused) = IsAtEnd left × AreAnswered k s (entries (lines bytes)) old new represents false refused × (shut ≡ false)
EndsWithin most k s bytes left old new represents shut crash_states E.Read = (refused : Bool) × AreAnswered k s (entries (ended_lines bytes)) old new represents false refused × (shut ≡ false)
EndsWithin most k s bytes left old new represents shut crash_states E.Endless = (refused : Bool) × AreAnswered k s (entries (ended_lines bytes)) old new represents false refused × (shut ≡ false) × (most ≤ length bytes)
EndsWithin most k s bytes left old new represents shut crash_states E.Write = StoppedAmong k s bytes left old new represents shut crash_states S.Write
EndsWithin most k s bytes left old new represents shut crash_states (E.Fault f) = StoppedAmong k s bytes left old new represents shut crash_states (S.Fault f)

-- how a run over these bytes ended
abbrev pub Ends : ℕ → State → List ℕ → Option (List ℕ) → Option (List ℕ) → Option (List ℕ) → States → Bool → (States → Type 0) → RunEnd → Type 0
Ends k s bytes left old new represents shut crash_states end = EndsWithin most_reads k s bytes left old new represents shut crash_states end
