-- What a keeper does.
use Rattle.std.specs.Prelude.{◌≡◌, ℕ, Bool, true, false, ◌⊎◌, Result, Ok, Err}
use Rattle.plant_base.specs.{State, Envelope}
use Rattle.plant_rules.specs.{step}
use Rattle.plant_rules.specs.{checked, Checked}
use Rattle.plant_keeper.specs.Replies.{reply}
use Rattle.plant_answers.specs.{answer}
use Rattle.plant_questions.specs.{Answer, DeskFault, Question, Reply}
use Rattle.plant_questions.specs.declared.reply.Reply.TheVariants.{Accepted, Refused}
use Rattle.plant_questions.specs.declared.reply.DeskFault.TheVariants.{Store, Memory, Shut}

-- a set of states
abbrev pub States : Type 1
States = State → Type 0

-- the outcome of `execute` at an open keeper that represented s: the reply, what it represents afterwards, and what a stop leaves
abbrev pub Executes : State → States → (States → Type 0) → Envelope → Result Reply DeskFault → Type 0
Executes s represents crash_states e (Ok r) = (r ≡ reply s e) × represents (step s e)
Executes s represents crash_states e (Err Store) = represents s × crash_states (λ u. (u ≡ s) ⊎ (u ≡ step s e))
Executes s represents crash_states e (Err Memory) = represents s
Executes s represents crash_states e (Err Shut) = ⊥

-- the outcome of `check` at an open keeper that represented s: what would become of the command, and what it represents afterwards
abbrev pub Checks : State → States → Envelope → Result Checked DeskFault → Type 0
Checks s represents e (Ok c) = (c ≡ checked s e) × represents s
Checks s represents e (Err Store) = represents s
Checks s represents e (Err Memory) = represents s
Checks s represents e (Err Shut) = ⊥

-- the outcome of `ask` at an open keeper of schema k that represented s: the answer, and what it represents afterwards
abbrev pub Asks : ℕ → State → States → Question → Result Answer DeskFault → Type 0
Asks k s represents q (Ok a) = (a ≡ answer k s q) × represents s
Asks k s represents q (Err Store) = represents s
Asks k s represents q (Err Memory) = represents s
Asks k s represents q (Err Shut) = ⊥

-- whether an open keeper is shut after an `execute`
abbrev pub shuts : Result Reply DeskFault → Bool
shuts (Ok r) = false
shuts (Err Store) = true
shuts (Err Memory) = false
shuts (Err Shut) = false

-- whether nothing was written for a command: it was refused, memory was, or the keeper is shut
abbrev pub writes_nothing : Result Reply DeskFault → Bool
writes_nothing (Ok (Accepted n)) = false
writes_nothing (Ok (Refused r)) = true
writes_nothing (Err Store) = false
writes_nothing (Err Memory) = true
writes_nothing (Err Shut) = true

-- What no call changes of a keeper that ends honest: it was honest before, its tables are of the same schema, and the
-- foreign tables are as they were.
pub record IsSameDesk {K : Type 0} {B : Type 0} (is_honest : K → Type 0) (schema_of : K → ℕ) (has_foreign_tables : K → B → Type 0) (old new : K) : Type 0 where
  pub honest : is_honest new → is_honest old
  pub schema : is_honest new → schema_of new ≡ schema_of old
  pub foreign_tables : is_honest new → (b : B) → has_foreign_tables old b → has_foreign_tables new b
