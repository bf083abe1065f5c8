-- A connection outside a transaction, and what a call that only reads leaves of it.
use Rattle.std.specs.Prelude.{◌≡◌, false, IsTrue}
use Rattle.sqlite.specs.State.{State}

-- no transaction is open, and while it is open what is shown is what was committed
pub record IsAtRest (s : State) : Type 0 where
  pub settled : IsTrue s.is_open → s.now ≡ s.committed
  pub mode : s.in_transaction ≡ false

-- while it is open, it shows what it showed
pub record Keeps (old new : State) : Type 0 where
  pub was_open : IsTrue new.is_open → IsTrue old.is_open
  pub now : IsTrue new.is_open → new.now ≡ old.now
  pub committed : IsTrue new.is_open → new.committed ≡ old.committed
