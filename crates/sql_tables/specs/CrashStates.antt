-- What a stop may leave of a store, and how one transaction ends.
use Rattle.std.specs.Prelude.{◌≡◌, ◌⊎◌, IsTrue}
use Rattle.sqlite.specs.Tree.{Trees}
use Rattle.sqlite.specs.Effect.{Database}
use Rattle.sqlite.specs.State.{State}

-- The connection is open and in no transaction, shows what was committed, and a stop leaves just that.
pub record IsSettled (s : State) : Type 0 where
  pub is_open : IsTrue s.is_open
  pub shows : s.now ≡ s.committed
  pub crash_states : s.may_leave s.committed.trees
  pub nothing_else : (db : Trees) → s.may_leave db → db ≡ s.committed.trees

-- The transaction was not committed, as far as is known: a stop leaves what was shown before, or what would have been
-- made, and the store, where it is still open, shows what it showed before.
pub record IsUndone (makes : Database → Database → Type 0) (old new : State) : Type 0 where
  pub crash_states : ∥ ((db : Trees) × new.may_leave db) ∥₁
  pub nothing_else : (db : Trees) → new.may_leave db → (db ≡ old.now.trees) ⊎ ((after : Database) × makes old.now after × (db ≡ after.trees))
  pub shows : IsTrue new.is_open → IsSettled new × (new.now ≡ old.now)
