-- What lookups over a connection rest on, and what they leave of it.
use Rattle.std.specs.Prelude.{◌≡◌, Bool, false, IsTrue}
use Rattle.sqlite.specs.State as store
use Rattle.sqlite.specs.State.{HasCleanDisk, Survives}
use Rattle.plant_base.specs.{newest_schema}
use Rattle.plant_view.specs.{tables_of}
use Rattle.plant_invariant.specs.StateInvariant.{StateInvariant}
use Rattle.sql_tables.specs.{Keeps}
use Rattle.plant_tables.specs.{HoldsTables}
use Rattle.plant_keyed.specs.StateShown.{abstraction}

-- The store kept its specification, no lookup failed, and the tables are those of the valid state that they show.
pub record IsHonest (c : store.State) (has_failed : Bool) : Type 0 where
  pub clean : HasCleanDisk c
  pub unfailed : has_failed ≡ false
  pub valid : StateInvariant (abstraction c.now)
  pub holds : HoldsTables c.now (tables_of newest_schema (abstraction c.now))

-- Nothing was written; and while no lookup fails the connection stays open and shows what it showed.
pub record PreservesFrame (old new : store.State) (had_failed has_failed : Bool) : Type 0 where
  pub kept : HasCleanDisk new → Keeps old new
  pub mode : old.in_transaction ≡ false → new.in_transaction ≡ false
  pub survives : Survives old new (λ _. ⊥)
  pub unfailed : has_failed ≡ false → had_failed ≡ false
  pub shows : HasCleanDisk new → has_failed ≡ false → new.now ≡ old.now
  pub live : HasCleanDisk new → has_failed ≡ false → IsTrue old.is_open → IsTrue new.is_open

-- What a lookup reports: where it ends honest it was so before, and the fact holds.
pub record IsReported (old new : store.State) (had_failed has_failed : Bool) (fact : Type 0) : Type 0 where
  pub always : PreservesFrame old new had_failed has_failed
  pub before : IsHonest new has_failed → IsHonest old had_failed
  pub holds : IsHonest new has_failed → fact
