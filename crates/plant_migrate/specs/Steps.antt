-- Tables of a version that are migrated by some versions, each in a transaction of its own, whatever state they represent.
use Rattle.std.specs.Prelude.{◌≡◌, ◌⊎◌, ℕ, ◌+◌, ◌≤◌, ◌<◌, List, IsTrue}
use Rattle.sqlite.specs.Tree.{Trees}
use Rattle.sqlite.specs.Effect.{Database}
use Rattle.sqlite.specs.State as store
use Rattle.plant_base.specs.{Position}
use Rattle.plant_view.specs.TableRows.{Tables}
use Rattle.plant_view.specs.{RowChange}
use Rattle.sql_tables.specs.{AreFree, KeepsOtherTables, IsSettled}
use Rattle.plant_tables.specs.{desk_table_defs, later_table_defs, IsAtOf, FindsOf, HoldsTablesOf, LacksLater, AreKeyed, MigratesTables}
use Rattle.plant_migrate.specs.Migrated.{added_rows, migrated_by}

-- The database holds these tables of a version, with keys in their order, and they have no rows of later tables.
pub record IsMigratable (version : ℕ) (db : Database) (t : Tables) : Type 0 where
  pub holds : HoldsTablesOf version db t
  pub keyed : AreKeyed t
  pub lacks : LacksLater version t

-- The later tables could be made in this database, and the trees are those that it has once its tables were migrated to the
-- next version.
pub record IsMigratedOnce (version : ℕ) (position : Position) (edges : List RowChange) (old : Database) (trees : Trees) : Type 0 where
  pub free : AreFree (later_table_defs version) old.schema
  pub new : Database
  pub migrates : MigratesTables version position (added_rows version edges) old new
  pub same : trees ≡ new.trees

-- The store is at the tables after some of the steps, and not after all, and foreign tables are as they were.
pub record IsWithin (version steps : ℕ) (tables : ℕ → Tables) (old new : store.State) : Type 0 where
  pub done : ℕ
  pub some : 0 < done
  pub few : done < steps
  pub at : IsAtOf (version + done) new (tables done)
  pub others : KeepsOtherTables desk_table_defs old.now new.now

-- The migration by so many steps was cut short: a stop leaves at least one, and nothing else than the tables after some of
-- the steps, with the same foreign tables; and the store, where it is still open, shows what it showed, or the
-- tables after some of the steps.
pub record FailureLeavesWithin (version steps : ℕ) (tables : ℕ → Tables) (old new : store.State) : Type 0 where
  pub crash_states : ∥ ((db : Trees) × new.may_leave db) ∥₁
  pub nothing_else : (db : Trees) → new.may_leave db → (done : ℕ) × (done ≤ steps) × FindsOf (version + done) old.now db (tables done)
  pub shows : IsTrue new.is_open → (IsAtOf version new (tables 0) × (new.now ≡ old.now)) ⊎ IsWithin version steps tables old new

-- What an opening of these trees finds: these tables of a version, the foreign ones as they were, and that the tables
-- that later versions add can still be made.
pub record FindsMigratable (version : ℕ) (before : Database) (trees : Trees) (t : Tables) : Type 0 where
  pub finds : FindsOf version before trees t
  pub free : AreFree (later_table_defs version) finds.schema

-- The later tables could be made in the database that the store showed, and in the trees whatever tables of the version it
-- held are to be found, migrated by some of the steps, with the same foreign tables, and can be migrated further; by
-- more than one where a stop left of the store what it showed, and nothing else.
pub record IsMigratedBy (version steps : ℕ) (position : Position) (edges : List RowChange) (old : store.State) (trees : Trees) : Type 0 where
  pub free : AreFree (later_table_defs version) old.now.schema
  pub done : ℕ
  pub some : 0 < done
  pub few : done ≤ steps
  pub finds : (1 < done → IsSettled old) → (t : Tables) → IsMigratable version old.now t → FindsMigratable (version + done) old.now trees (migrated_by done version position edges t)
