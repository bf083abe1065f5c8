-- What a migration to the next schema promises of whatever tables it migrates, of the store before and after it and of its result.
use Rattle.std.specs.Prelude.{ℕ, ◌+◌, List, Result, OnOk, OnErr}
use Rattle.sqlite.specs.State.{State, HasCleanDisk}
use Rattle.plant_base.specs.{Position}
use Rattle.plant_view.specs.{changed_all, RowChange}
use Rattle.plant_view.specs.TableRows.{Tables}
use Rattle.sql_tables.specs.{KeepsOtherTables, AreFree, IsSettled}
use Rattle.plant_tables.specs.DeskTableDefs.{desk_table_defs, later_table_defs}
use Rattle.plant_tables.specs.DeskCrashStates.{IsAtOf, FailureLeavesOf}
use Rattle.plant_tables.specs.Schemas.{AreMigratable, migration}

-- done, the store is at the migrated tables, and foreign tables are as they were
abbrev pub MigratesNext : {A E : Type 0} → ℕ → Position → List RowChange → State → State → Result A E → Type 0
MigratesNext version position added old new r = HasCleanDisk new → IsSettled old → (t : Tables) → AreMigratable version added old.now t
    → OnOk r (IsAtOf (version + 1) new (changed_all (migration version position added) t) × KeepsOtherTables desk_table_defs old.now new.now)

-- and those that later schemas add can still be made
abbrev pub KeepsLaterNamesFree : {A E : Type 0} → ℕ → List RowChange → State → State → Result A E → Type 0
KeepsLaterNamesFree version added old new r = HasCleanDisk new → IsSettled old → (t : Tables) → AreMigratable version added old.now t
    → OnOk r (AreFree (later_table_defs (version + 1)) new.now.schema)

-- failed, it was cut short
abbrev pub FailureLeavesNext : {A E : Type 0} → ℕ → Position → List RowChange → State → State → Result A E → Type 0
FailureLeavesNext version position added old new r = HasCleanDisk new → IsSettled old → (t : Tables) → AreMigratable version added old.now t
    → OnErr r (FailureLeavesOf version (version + 1) old new t (changed_all (migration version position added) t))
