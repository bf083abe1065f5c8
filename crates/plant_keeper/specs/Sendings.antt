-- Sendings: commands that are sent, answered or stopped, and sent again.
use Rattle.std.specs.Prelude.{◌≡◌, List, [], ◌∷◌, IsSome, ⊤}
use Rattle.plant_base.specs.{State, Envelope}
use Rattle.plant_rules.specs.{step}

-- how a command that was sent ended: it was answered, or the desk was stopped, before it acted or after that
pub data Outcome : Type 0 where
  answered : Outcome
  stopped_before : Outcome
  stopped_after : Outcome

-- a sending is a list of commands, each with its outcome
abbrev pub Sending : Type 0
Sending = List (Envelope × Outcome)

-- where a command leads that ended so
abbrev pub after : State → Envelope → Outcome → State
after s e answered = step s e
after s e stopped_before = s
after s e stopped_after = step s e

-- where a sending leads
abbrev pub state_after_sending : State → Sending → State
state_after_sending s [] = s
state_after_sending s (x ∷ xs) = state_after_sending (after s x.0 x.1) xs

-- the commands that were answered
abbrev pub with_answer : Envelope → Outcome → List Envelope → List Envelope
with_answer e answered es = e ∷ es
with_answer e stopped_before es = es
with_answer e stopped_after es = es

abbrev pub answered_of : Sending → List Envelope
answered_of [] = []
answered_of (x ∷ xs) = with_answer x.0 x.1 (answered_of xs)

-- the first command is this one
abbrev pub BeginsWith : Envelope → Sending → Type 0
BeginsWith e [] = ⊥
BeginsWith e (x ∷ xs) = x.0 ≡ e

-- a command that was stopped has a reference, and is the next one again
abbrev pub IsResent : Envelope → Outcome → Sending → Type 0
IsResent e answered xs = ⊤
IsResent e stopped_before xs = IsSome e.reference × BeginsWith e xs
IsResent e stopped_after xs = IsSome e.reference × BeginsWith e xs

-- each command that was stopped is sent again until it is answered
abbrev pub IsPersistent : Sending → Type 0
IsPersistent [] = ⊤
IsPersistent (x ∷ xs) = IsResent x.0 x.1 xs × IsPersistent xs
