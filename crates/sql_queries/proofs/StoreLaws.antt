-- A store whose transaction is not broken has its tables in the order of their rowids.
use Rattle.std.proofs.Common.{◌≡◌, ℕ, true, false, refl, ap, subst, Bool, IsTrue, Result, Ok, Err, IfOk}
use Rattle.sqlite_trees.specs.View.{IsShaped, IsOrdered}
use Rattle.sqlite_trees.specs.Tree.{Trees}
use Rattle.sqlite_trees.specs.declared.store.Shape.{Shape}
use Rattle.sqlite_trees.specs.declared.store.Shape.TheVariants as shape
use Rattle.sqlite_trees.specs.Objects.{IsListed, catalog_tree}
use Rattle.sqlite_schema.specs.declared.schema.Schema.{Schema}
use Rattle.sqlite_catalog.specs.Listing.{IsSound}
use Rattle.sqlite_catalog.proofs.LayoutLemmas.{table_shape}
use Rattle.sqlite_trees.specs.declared.memory.MemStore.{MemStore}
use Rattle.sqlite.specs.Held.{Held, state}
use Rattle.sqlite.specs.State as store
use Rattle.sqlite.specs.State.{Opens}
use Rattle.sqlite.specs.Steps.{over_memory, IsEmpty}
use Rattle.sql_tables.proofs.TransactionEnds.{IsStore}
use Rattle.sql_queries.specs.{IsNewlyOpened, IsRising}

-- the shapes that the list of objects gives order each of the trees
pub rising_of : (shapes : ℕ → Shape) (reals : ℕ → ℕ) (schema : Schema) (db : Trees) → IsListed (db catalog_tree) shapes reals → IsOrdered shapes db → IsSound schema db
    → IsRising (record { schema = schema; trees = db })
rising_of shapes reals schema db listed ordered sound = record {
  rises = λ t h. subst (λ s. IsShaped s (db t.tree)) (table_shape listed objects.0 sound.lists.listed t h).0 (ordered t.tree);
}
  where
    objects : IsShaped shape.Table (db catalog_tree)
    objects = subst (λ s. IsShaped s (db catalog_tree)) listed.itself.0 (ordered catalog_tree)

pub ok_three : {A E : Type 0} (r : Result A E) (P Q R T : A → Type 0) → ((x : A) → P x → Q x → R x → T x) → IfOk r P → IfOk r Q → IfOk r R → IfOk r T
ok_three (Ok x) P Q R T f p q r = f x p q r
ok_three (Err e) P Q R T f p q r = tt

pub open_if : (o b : Bool) → (o ≡ false → IsTrue b) → b ≡ false → IsTrue o
open_if true b h k = refl
open_if false b h k = absurd (let broken = rw k at (h refl) in cc)

pub ok_two : {A E : Type 0} (r : Result A E) (P Q T : A → Type 0) → ((x : A) → P x → Q x → T x) → IfOk r P → IfOk r Q → IfOk r T
ok_two (Ok x) P Q T f p q = f x p q
ok_two (Err e) P Q T f p q = tt

-- a store that was opened is settled
pub newly_opened : (c : store.State) → Opens c → IsStore c → IsRising c.now → IsNewlyOpened c
newly_opened c opens laws rising = record {
  settled = record { is_open = opens.is_open; shows = opens.clean; crash_states = laws.stays opens.is_open; nothing_else = λ db left. laws.settled db opens.is_open left };
  rising = rising;
}

-- a store in memory, which has no table
pub memory_opened : (c : Held MemStore) → IsEmpty (state over_memory c) → IsNewlyOpened (state over_memory c)
memory_opened c empty = record {
  settled = record { is_open = empty.0.is_open; shows = empty.0.clean; crash_states = refl; nothing_else = λ db left. left };
  rising = record { rises = λ t has. absurd (rw (ap (λ (s : Schema). s.tables) empty.2) at has) };
}
