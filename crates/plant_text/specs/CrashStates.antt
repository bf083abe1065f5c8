-- What a stop leaves after a run.
use Rattle.std.specs.Prelude.{◌≡◌, ℕ, List, [], ◌∷◌, ◌++◌, Option, ◌⊎◌}
use Rattle.std.specs.Str.Lines.{lines}
use Rattle.std.specs.Io.KnownBytes.{IsAtEnd}
use Rattle.plant_base.specs.{State}
use Rattle.plant_keeper.specs.{States}
use Rattle.plant_questions.specs.{DeskFault}
use Rattle.plant_questions.specs.declared.reply.DeskFault.TheVariants.{Store, Memory, Shut}
use Rattle.plant_text.specs.Session.{Entry, nothing, after, fold, entries, ended_lines, all_lines}
use Rattle.plant_text.specs.declared.run.RunEnd.{RunEnd}
use Rattle.plant_text.specs.declared.run.RunEnd.TheVariants as E
use Rattle.plant_text.specs.declared.turns.TurnError.{TurnError}
use Rattle.plant_text.specs.declared.turns.TurnError.TheVariants as S

-- the keeper represents this state, and a stop leaves it and no other
abbrev pub RepresentsDurably : States → (States → Type 0) → State → Type 0
RepresentsDurably represents crash_states t = represents t × crash_states (λ u. u ≡ t)

-- the keeper represents s, and a stop leaves s or the state after the entry e, and no other
abbrev pub RepresentsEither : States → (States → Type 0) → State → Entry → Type 0
RepresentsEither represents crash_states s e = represents s × crash_states (λ u. (u ≡ s) ⊎ (u ≡ after s e))

-- what a stop leaves after a fault at the entry e, before which the keeper represented s
abbrev pub CrashStatesAtFault : DeskFault → States → (States → Type 0) → State → Entry → Type 0
CrashStatesAtFault Store represents crash_states s e = RepresentsDurably represents crash_states s ⊎ RepresentsEither represents crash_states s e
CrashStatesAtFault Memory represents crash_states s e = RepresentsDurably represents crash_states s
CrashStatesAtFault Shut represents crash_states s e = ⊥

-- what a stop leaves where the run stopped at the entry e: where a write failed, it was e's reply or a fault's line
abbrev pub CrashStatesAtStop : TurnError → States → (States → Type 0) → State → Entry → Type 0
CrashStatesAtStop S.Write represents crash_states s e = RepresentsDurably represents crash_states (after s e) ⊎ CrashStatesAtFault Store represents crash_states s e
CrashStatesAtStop (S.Fault f) represents crash_states s e = CrashStatesAtFault f represents crash_states s e

-- some of the entries were answered, and the run stopped at the next one
pub record CrashStatesAfterSome (s : State) (es : List Entry) (represents : States) (crash_states : States → Type 0) (stop : TurnError) : Type 0 where
  pub answered : List Entry
  pub next : Entry
  pub more : List Entry
  pub cut : es ≡ answered ++ next ∷ more
  pub left : CrashStatesAtStop stop represents crash_states (fold s answered) next

-- the same of the lines of a run: at the end of the input of all, else of those whose LF was read
abbrev pub CrashStatesAmong : State → List ℕ → Option (List ℕ) → States → (States → Type 0) → TurnError → Type 0
CrashStatesAmong s bytes left represents crash_states stop =
    (IsAtEnd left × CrashStatesAfterSome s (entries (all_lines bytes)) represents crash_states stop)
    ⊎ CrashStatesAfterSome s (entries (ended_lines bytes) ++ nothing ∷ []) represents crash_states stop

-- What a stop leaves after a run over these bytes that ended so: the state that the keeper represents, and no other; after
-- a store's fault at a command the state before the command or that after it.
abbrev pub CrashStatesOfRun : State → List ℕ → Option (List ℕ) → States → (States → Type 0) → RunEnd → Type 0
CrashStatesOfRun s bytes left represents crash_states (E.Done refused) = RepresentsDurably represents crash_states (fold s (entries (lines bytes)))
CrashStatesOfRun s bytes left represents crash_states E.Read = RepresentsDurably represents crash_states (fold s (entries (ended_lines bytes)))
CrashStatesOfRun s bytes left represents crash_states E.Endless = RepresentsDurably represents crash_states (fold s (entries (ended_lines bytes)))
CrashStatesOfRun s bytes left represents crash_states E.Write = CrashStatesAmong s bytes left represents crash_states S.Write
CrashStatesOfRun s bytes left represents crash_states (E.Fault f) = CrashStatesAmong s bytes left represents crash_states (S.Fault f)
