-- What is decided by lookups over a store.
use Rattle.std.specs.Prelude.{◌≡◌, Some, None}
use Rattle.plant_base.specs.{State, Envelope, Receipt}
use Rattle.plant_rules.specs.{IsDecision, wrong, kept_for}
use Rattle.plant_desk_store.specs.declared.lookups.Decided.{Decided}

-- the definitions' decision of the command at this state, and the number of commands accepted there
pub record IsDecidedAt (s : State) (e : Envelope) (d : Decided) : Type 0 where
  pub seq : d.seq ≡ s.seq
  pub decides : IsDecision s e d.decision

-- the command was accepted before: its reference is kept, and it fails no condition
abbrev pub IsRepeat : State → Envelope → Type 0
IsRepeat s e = (wrong s e ≡ None) × ((r : Receipt) × (kept_for s e ≡ Some r))
