-- Clients that send each command in flight at a stop again, until it is acknowledged.
use Rattle.std.specs.Prelude.{◌≡◌, ◌⊎◌, List, [], ◌∷◌, ◌++◌, IsSome, ⊤}
use Rattle.sqlite.specs.Held.{Held, state}
use Rattle.sqlite.specs.State.{HasCleanDisk}
use Rattle.sqlite_trees.specs.declared.store.Store.{Ghosts}
use Rattle.plant_base.specs.{State, Envelope}
use Rattle.plant_keeper.specs.{once, plain, but_receipts, reply, Outcome, answered, stopped_before, stopped_after, Sending, after, state_after_sending}
use Rattle.plant_desk_store.specs.Headline.{IsAtState, IsSoAt}
use Rattle.plant_desk_store.specs.Machines.{Attempt, acknowledged, in_flight}
use Rattle.plant_desk_store.specs.Executions.{PossibleOutcome, IsOpened, StorePhase, Execution}

-- ---- the commands of an execution are a sending

-- what became of a command that was sent at this state: it was acknowledged by the definitions' reply, or it was under way at
-- a stop, before it acted or after that
abbrev pub attempt_at : State → Envelope → Outcome → Attempt
attempt_at s e answered = acknowledged e (reply s e)
attempt_at s e stopped_before = in_flight e
attempt_at s e stopped_after = in_flight e

-- and of each command of a sending
abbrev pub all_attempts : State → Sending → List Attempt
all_attempts s [] = []
all_attempts s (x ∷ xs) = attempt_at s x.0 x.1 ∷ all_attempts (after s x.0 x.1) xs

-- Wherever the commands of an execution may have led, a sending of just these commands leads.
abbrev pub ExecutionsAreSendings : Type 0
ExecutionsAreSendings = (s u : State) (list : List Attempt) → PossibleOutcome s list u → (xs : Sending) × (all_attempts s xs ≡ list) × (state_after_sending s xs ≡ u)

-- ---- each acts once

-- the commands that were acknowledged, in order
abbrev pub acknowledged_of : List Attempt → List Envelope
acknowledged_of [] = []
acknowledged_of (acknowledged e r ∷ more) = e ∷ acknowledged_of more
acknowledged_of (in_flight e ∷ more) = acknowledged_of more

-- a command was acknowledged among those that were sent
abbrev pub IsAcknowledged : Envelope → List Attempt → Type 0
IsAcknowledged e [] = ⊥
IsAcknowledged e (acknowledged d r ∷ more) = (d ≡ e) ⊎ IsAcknowledged e more
IsAcknowledged e (in_flight d ∷ more) = IsAcknowledged e more

-- Each command that was under way at a stop has a reference, and is acknowledged later, after whatever others that were sent
-- meanwhile.
abbrev pub AreResent : List Attempt → Type 0
AreResent [] = ⊤
AreResent (acknowledged e r ∷ more) = AreResent more
AreResent (in_flight e ∷ more) = IsSome e.reference × IsAcknowledged e more × AreResent more

-- The list is that of the acknowledged commands, each at its place or at that of an attempt before it: a command that was under
-- way at a stop is taken where it is acknowledged, or where it was stopped and then there no more.
abbrev pub IsOrderOf : List Attempt → List Envelope → Type 0
IsOrderOf [] es = es ≡ []
IsOrderOf (acknowledged e r ∷ more) es = (rest : List Envelope) × (es ≡ e ∷ rest) × IsOrderOf more rest
IsOrderOf (in_flight e ∷ more) es = IsOrderOf more es ⊎ ((a b : List Envelope) × (es ≡ e ∷ (a ++ b)) × IsOrderOf more (a ++ e ∷ b))

-- the state is where, but for receipts, the acknowledged commands lead, in such an order, each taken once, in a desk without receipts
abbrev pub IsLedTo : State → List Attempt → State → Type 0
IsLedTo s list u = (es : List Envelope) × IsOrderOf list es × (but_receipts u ≡ but_receipts (plain s (once s es)))

-- Then they lead to such a state.
abbrev pub ExecutionsApplyOnce : Type 0
ExecutionsApplyOnce = (s u : State) (list : List Attempt) → AreResent list → PossibleOutcome s list u → IsLedTo s list u

-- So it is of a store, whatever it has been through since its first opening: what is found and kept there, as the main theorem
-- says it, is of such a state.
abbrev pub StoresApplyOnce : {S : Type 0} → Ghosts S → Type 0
StoresApplyOnce {S} g = (first c : Held S) (phase : StorePhase) (list : List Attempt) → IsOpened (state g first) → Execution g first c phase list → HasCleanDisk (state g c) → AreResent list
    → (s : State) × IsAtState s (state g first).now × ((now : State) × PossibleOutcome s list now × IsLedTo s list now × IsSoAt g c now phase)

-- ---- of one client, in order

-- the next command that was sent is this one
abbrev pub IsNext : Envelope → List Attempt → Type 0
IsNext e [] = ⊥
IsNext e (acknowledged d r ∷ more) = d ≡ e
IsNext e (in_flight d ∷ more) = d ≡ e

-- each command that was under way at a stop has a reference, and is the next one again until it is acknowledged
abbrev pub AreNextAgain : List Attempt → Type 0
AreNextAgain [] = ⊤
AreNextAgain (acknowledged e r ∷ more) = AreNextAgain more
AreNextAgain (in_flight e ∷ more) = IsSome e.reference × IsNext e more × AreNextAgain more

-- Then they lead, but for receipts, where the acknowledged commands lead in the order in which they were acknowledged, each taken once.
abbrev pub ExecutionsApplyInOrder : Type 0
ExecutionsApplyInOrder = (s u : State) (list : List Attempt) → AreNextAgain list → PossibleOutcome s list u → but_receipts u ≡ but_receipts (plain s (once s (acknowledged_of list)))
