-- What is known of the state at which a store was adopted.
use Rattle.std.proofs.Common.{◌≡◌, inl, inr, false, Bool, arith}
use Rattle.sqlite.specs.State as store
use Rattle.sqlite.specs.State.{Survives}
use Rattle.sqlite.specs.Tree.{Trees}
use Rattle.plant_base.specs.{State, opening}
use Rattle.plant_keeper.specs.{States}
use Rattle.plant_desk_store.specs.{IsNewlyOpened, AdoptedFrom, HasForeignTables, IsDurablyAt, KeepsForeignTables, Represents}
use Rattle.desk_program.specs.{WasHonest}

pub adopted_so : (c : store.State) → IsNewlyOpened c → (before after : States) → ((s : State) → before s → after s) → AdoptedFrom c before → AdoptedFrom c after
adopted_so c opened before after step (inl h) = inl (h.0, step opening h.1)
adopted_so c opened before after step (inr h) = inr (h.0, (h.1.0, h.1.1, step h.1.0 h.1.2))

-- an open desk at a state
pub as_represented : (c : store.State) (shut : Bool) (s : State) → IsDurablyAt c s → Represents c shut s
as_represented c shut s h = (h.represents, λ _. h.crash_states)

pub as_open : (c : store.State) (shut : Bool) (s : State) → shut ≡ false → Represents c shut s → IsDurablyAt c s
as_open c shut s is_open h = record { represents = h.0; crash_states = h.1 is_open }

pub adopted_at : (c : store.State) → IsNewlyOpened c → (represents : States) → AdoptedFrom c represents → (s : State) × represents s
adopted_at c opened represents (inl h) = (opening, h.1)
adopted_at c opened represents (inr h) = (h.1.0, h.1.2)

-- the foreign tables of a store that was adopted
pub foreign_at : (before c : store.State) (shut : Bool) → IsNewlyOpened before → AdoptedFrom before (IsDurablyAt c) × KeepsForeignTables before.now c → HasForeignTables c shut before.now
foreign_at before c shut opened was =
    let at = adopted_at before opened (IsDurablyAt c) was.0 in
    record { state = at.0; represents = as_represented c shut at.0 at.1; others = was.1 }

-- no fault of a disk is forgotten
pub honest_before : (before after : store.State) (commits : Trees → Type 0) → Survives before after commits → WasHonest before after
honest_before before after commits crash clean = omega (arith, crash.clean, clean)
