-- The desk as an abstract machine, without a store: what is told to it and asked of it, what it answers, what a stop leaves of it, and how it goes on. The
-- main theorem says that whatever a store has been through is a run of this machine, and that the store holds the machine's state.
--
-- The machine is made of a few definitions of others: what a state is, and the one that it begins at (State, opening); what a command is
-- (Envelope); to which state one leads, and by what it is answered (step, reply); what a question is answered (answer); and what would become
-- of a command (checked). Whoever believes the machine goes on with these.
use Rattle.std.specs.Prelude.{◌≡◌, List, [], ◌∷◌}
use Rattle.plant_base.specs.{State, newest_schema, Envelope}
use Rattle.plant_rules.specs.{step, checked, Checked}
use Rattle.plant_keeper.specs.{reply}
use Rattle.plant_answers.specs.{answer}
use Rattle.plant_questions.specs.{Answer, Question, Reply}

-- ---- what happens to it

-- A command that was sent: it was acknowledged by this reply, its number or its refusal; or it was under way when the store failed or was
-- stopped, so that nobody was told how it ended.
pub data Attempt : Type 0 where
  acknowledged : Envelope → Reply → Attempt
  in_flight : Envelope → Attempt

-- An attempt at a command; a question, with its answer; a check of a command, with what it said; a stop at rest; and an opening.
pub data Event : Type 0 where
  attempt : Attempt → Event
  question : Question → Answer → Event
  check : Envelope → Checked → Event
  stop : Event
  opening_again : Event

-- ---- where it is

-- It is at a state, up or down: commands are taken and questions answered only where it is up.
pub data Machine : Type 0 where
  up : State → Machine
  down : State → Machine

-- ---- what it does

-- The steps of the machine.
-- A command is acknowledged by the reply at the state: the first condition that it fails, or its number; it leads to the next state, which is
-- the same one where it was refused, or was taken before under its reference. A stop within a command leaves nothing of it, or all of it.
-- What is asked or checked changes nothing. A stop at rest leaves the state, and an opening goes on there.
pub data Step : Machine → Event → Machine → Type 0 where
  takes : (s : State) (e : Envelope) → Step (up s) (attempt (acknowledged e (reply s e))) (up (step s e))
  stops_before : (s : State) (e : Envelope) → Step (up s) (attempt (in_flight e)) (down s)
  stops_after : (s : State) (e : Envelope) → Step (up s) (attempt (in_flight e)) (down (step s e))
  answers : (s : State) (q : Question) → Step (up s) (question q (answer newest_schema s q)) (up s)
  checks : (s : State) (e : Envelope) → Step (up s) (check e (checked s e)) (up s)
  stops : (s : State) → Step (up s) stop (down s)
  opens : (s : State) → Step (down s) opening_again (up s)

-- ---- its runs

-- from one place of the machine to another, by a step for each event
pub data Run : Machine → List Event → Machine → Type 0 where
  rests : (m : Machine) → Run m [] m
  goes_on : (a b c : Machine) (x : Event) (more : List Event) → Step a x b → Run b more c → Run a (x ∷ more) c

-- the attempts at commands among events
abbrev pub attempts_in : List Event → List Attempt
attempts_in [] = []
attempts_in (attempt x ∷ more) = x ∷ attempts_in more
attempts_in (question q a ∷ more) = attempts_in more
attempts_in (check e c ∷ more) = attempts_in more
attempts_in (stop ∷ more) = attempts_in more
attempts_in (opening_again ∷ more) = attempts_in more

-- A run, from where the machine is down at the state s, in which these were the attempts at commands, each in its turn.
pub record LeadsTo (s : State) (attempts : List Attempt) (m : Machine) : Type 0 where
  pub events : List Event
  pub run : Run (down s) events m
  pub attempted : attempts_in events ≡ attempts
