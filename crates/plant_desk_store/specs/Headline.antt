-- The main theorem: what a store holds and what is answered of it, whatever stops came.
use Rattle.std.specs.Prelude.{◌≡◌, ◌⊎◌, ◌↔◌, ℕ, ◌+◌, true, false, List, map, filter, None, Ok, IsTrue, ⊤, Contains}
use Rattle.std.specs.List.{AllByRecursion}
use Rattle.std.specs.List.Sorted.{IsStrictlySortedBy}
use Rattle.sqlite.specs.Effect.{Database, IsDatabase}
use Rattle.sqlite.specs.Held.{Held, state}
use Rattle.sqlite.specs.State as store
use Rattle.sqlite.specs.State.{HasCleanDisk}
use Rattle.sqlite_trees.specs.declared.store.Store.{Ghosts}
use Rattle.plant_base.specs.{State, opening, newest_schema, same, lot_at, Envelope, Sublot}
use Rattle.plant_stock.specs.{entered, left, born_of, left_of}
use Rattle.plant_trace.specs.{IsReached, Lists, Direction, Node}
use Rattle.plant_view.specs.{edges_of, tables_of, IsWholeIn, place_of_row}
use Rattle.plant_invariant.specs.StateInvariant.{StateInvariant}
use Rattle.sql_tables.specs.{AreFree}
use Rattle.plant_tables.specs.{desk_table_defs, HoldsTablesOf, HoldsTables}
use Rattle.plant_rules.specs.{checked, Checked}
use Rattle.plant_answers_genealogy.specs.{StandsFrom, standing_order, missing}
use Rattle.plant_answers.specs.{answer}
use Rattle.plant_questions.specs.{Answer, LotAnswer, Question, StandingLot}
use Rattle.plant_questions.specs.declared.question.Question.TheVariants as Q
use Rattle.plant_questions.specs.declared.question.Answer.TheVariants as A
use Rattle.plant_desk_store.specs.CallContracts.{IsAccounted, HasRefused, HasCheckedCommand, HasAsked}
use Rattle.plant_desk_store.specs.Executions.{PossibleOutcome, IsOpened, StorePhase, opened, desk, refused, Execution}
use Rattle.plant_desk_store.specs.Machines.{Attempt, LeadsTo, Machine, down, up}
use Rattle.plant_desk_store.specs.declared.adopting.AdoptFault.{AdoptFault}
use Rattle.plant_desk_store.specs.declared.adopting.AdoptFault.TheVariants.{Store, Memory}

-- ---- what is answered

-- the trace lists just what the least relation reaches, or the lot or batch that it starts from isn't there
abbrev pub IsTraceIn : State → Direction → Node → Answer → Type 0
IsTraceIn s direction start (A.Trace nodes) = Lists (IsReached direction (edges_of s) start) nodes
IsTraceIn s direction start _ = ¬ (missing s start ≡ None)

-- the lots in the answer are just those with stock that the start is or leads to, ascending, each once, or it isn't there
abbrev pub AreStandingIn : State → Node → Answer → Type 0
AreStandingIn s start (A.Stands lots) = IsStrictlySortedBy standing_order lots × ((a : StandingLot) → Contains lots a ↔ StandsFrom s start a)
AreStandingIn s start _ = ¬ (missing s start ≡ None)

-- The stock of the lot is what entered it less what left it; its sublots are just those of the state, each at its place, and
-- the stock of each is likewise what entered it less what left it.
pub record IsStockIn (s : State) (lot : List ℕ) (a : LotAnswer) : Type 0 where
  pub named : a.lot ≡ lot
  pub stock : a.stock + left_of s.movements lot ≡ born_of s.movements lot
  pub sublots : map place_of_row a.sublots ≡ filter (λ p. same p.lot lot) s.places
  pub each : AllByRecursion (λ (r : Sublot). r.stock + left s.movements r.lot r.number ≡ entered s.movements r.lot r.number) a.sublots

-- the answer is the lot's stock, or the lot isn't there
abbrev pub IsLotIn : State → List ℕ → Answer → Type 0
IsLotIn s lot (A.Lot a) = IsStockIn s lot a
IsLotIn s lot _ = lot_at s lot ≡ None

-- what an answer says of a trace, of where goods are or of a lot, in words of movements and of the least relation
abbrev pub SaysOf : State → Question → Answer → Type 0
SaysOf s (Q.Trace direction start) a = IsTraceIn s direction start a
SaysOf s (Q.Stands start) a = AreStandingIn s start a
SaysOf s (Q.Lot lot) a = IsLotIn s lot a
SaysOf s _ a = ⊤

-- Each question is answered by the definitions' answer at the state, of tables in the newest schema; and of a trace, of where
-- goods are and of a lot that says what follows.
pub record IsAnsweredIn (s : State) (q : Question) (a : Answer) : Type 0 where
  pub answered : a ≡ answer newest_schema s q
  pub says : SaysOf s q a

-- ---- what a store holds

-- the database holds the tables of the state, in a schema that lacks no row of it; or the names of the desk's tables are
-- free, and the state is the opening one
abbrev pub IsAtState : State → Database → Type 0
IsAtState s db = (AreFree desk_table_defs db.schema × (s ≡ opening)) ⊎ ((version : ℕ) × HoldsTablesOf version db (tables_of version s) × IsWholeIn version s)

-- A store that was opened is at the state, which is valid, with no row lost or added. An adoption refuses it by a fault of
-- the store or for want of memory alone.
pub record IsFoundAt {S : Type 0} (g : Ghosts S) (c : Held S) (s : State) : Type 0 where
  pub valid : StateInvariant s
  pub accounted : IsAccounted s
  pub tables : IsAtState s (state g c).now
  pub accepted : (f : AdoptFault) (new : Held S) → HasRefused f (state g c) (state g new) → HasCleanDisk (state g new) → (f ≡ Store) ⊎ (f ≡ Memory)

-- The store of a desk that isn't shut, while it is open, holds the tables of the state, which is valid: nothing in it is lost
-- or made. Questions are answered by it, and checks of commands too.
pub record IsKeptAt {S : Type 0} (g : Ghosts S) (c : Held S) (s : State) : Type 0 where
  pub valid : StateInvariant s
  pub accounted : IsAccounted s
  pub tables : IsTrue (state g c).is_open → HoldsTables (state g c).now (tables_of newest_schema s)
  pub command_checked : (e : Envelope) (said : Checked) (new : Held S) → HasCheckedCommand (state g c) (state g new) e (Ok said) → HasCleanDisk (state g new) → said ≡ checked s e
  pub reported : (q : Question) (a : Answer) (new : Held S) → HasAsked (state g c) (state g new) q (Ok a) → HasCleanDisk (state g new) → IsAnsweredIn s q a

-- a stop leaves something that can be opened: the trees of a sound database
abbrev pub HasOpenableCrashState : store.State → Type 0
HasOpenableCrashState c = ∥ ((db : Database) × IsDatabase db × c.may_leave db.trees) ∥₁

-- what is so in each phase; of a desk that is shut and of a store that was given back nothing is said but at the next opening
abbrev pub IsSoAt : {S : Type 0} → Ghosts S → Held S → State → StorePhase → Type 0
IsSoAt g c s opened = IsFoundAt g c s
IsSoAt g c s (desk false) = IsKeptAt g c s
IsSoAt g c s (desk true) = ⊤
IsSoAt g c s refused = ⊤

-- The machine is up while a desk that isn't shut is over the store.
abbrev pub machine_at : StorePhase → State → Machine
machine_at opened s = down s
machine_at (desk false) s = up s
machine_at (desk true) s = down s
machine_at refused s = down s

-- Whatever a store has been through since its first opening, calls and stops at any moment: it was at some state first, and what it has been
-- through is a run of the machine from there, with the same commands and replies. So the store is at the state to which all acknowledged commands lead, or
-- these and some of those that were under way, each at a stop of its own; and a stop leaves something. There each trace is exactly the least
-- relation that is closed under recorded consumption, production, split and merge, and every lot's stock is what entered it less what left it.
abbrev pub Headline : {S : Type 0} → Ghosts S → Type 0
Headline {S} g = (first c : Held S) (phase : StorePhase) (attempts : List Attempt) → IsOpened (state g first) → Execution g first c phase attempts → HasCleanDisk (state g c)
    → (s : State) × IsAtState s (state g first).now × ((now : State) × LeadsTo s attempts (machine_at phase now) × IsSoAt g c now phase) × HasOpenableCrashState (state g c)

-- The runs of the machine, told without it: where commands may have led is where it is, up or down.
abbrev pub RunsAreOutcomes : Type 0
RunsAreOutcomes = (s now : State) (attempts : List Attempt) (phase : StorePhase) → LeadsTo s attempts (machine_at phase now) ↔ PossibleOutcome s attempts now
