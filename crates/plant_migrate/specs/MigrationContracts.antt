-- What the calls that migrate tables promise, each of a store before and after it and of its result.
use Rattle.std.specs.Prelude.{◌≡◌, ◌≢◌, ℕ, ◌+◌, ℤ, pos, List, OnOk, OnErr, IfErr, Result, ◌≤ℤ◌, ◌<ℤ◌}
use Rattle.sqlite.specs.State as store
use Rattle.sqlite.specs.State.{HasCleanDisk, Survives}
use Rattle.plant_base.specs.{State, newest_schema, Position}
use Rattle.plant_view.specs.{tables_of, IsWholeIn, RowChange}
use Rattle.plant_view.specs.TableRows.{Tables}
use Rattle.sql_tables.specs.{KeepsOtherTables, IsSettled, StoreFault}
use Rattle.sql_tables.specs.declared.fault.StoreFault.TheVariants as fault
use Rattle.plant_tables.specs.{desk_table_defs, IsAtOf, AreKeyed}
use Rattle.plant_tables.specs.{rows_in, rows_listed, DeskRows, IsVersion}
use Rattle.plant_migrate.specs.Migrated.{migrated_by}
use Rattle.plant_migrate.specs.FailureLeaves.{IsReadable, FailureLeavesAmid, HasKnownVersion, migrated_to}
use Rattle.plant_migrate.specs.Steps.{IsMigratable, FailureLeavesWithin}
use Rattle.plant_migrate.specs.declared.migration.RaiseFault.{RaiseFault}
use Rattle.plant_migrate.specs.declared.migration.RaiseFault.TheVariants as migration

-- the store is at the tables of the state in a version, and foreign tables are as they were
abbrev pub IsMigratedAt : ℕ → store.State → store.State → State → Type 0
IsMigratedAt version old new s = IsAtOf version new (tables_of version s) × KeepsOtherTables desk_table_defs old.now new.now

-- the fault of a migration that a fault of its store is
abbrev pub raise_fault : StoreFault → RaiseFault
raise_fault fault.Store = migration.Store
raise_fault fault.Memory = migration.Memory

-- readable tables of a version were migrated to a later one
abbrev pub Migrates : ℕ → ℕ → store.State → store.State → Result (Unit {0}) StoreFault → Type 0
Migrates version to old new r = HasCleanDisk new → (s : State) → IsReadable version old s → OnOk r (IsMigratedAt to old new s)

-- or that was cut short
abbrev pub FailureLeavesTables : ℕ → ℕ → store.State → store.State → Result (Unit {0}) StoreFault → Type 0
FailureLeavesTables version to old new r = HasCleanDisk new → (s : State) → IsReadable version old s → OnErr r (FailureLeavesAmid version to old new s)

-- where memory was refused a stop leaves what it left
abbrev pub WritesNothing : store.State → store.State → Result (Unit {0}) StoreFault → Type 0
WritesNothing old new r = IfErr r (λ f. f ≡ fault.Memory → Survives old new (λ _. ⊥))

-- ---- whichever version they are of

abbrev pub MigratesFound : {E : Type 0} → ℕ → store.State → store.State → Result (Unit {0}) E → Type 0
MigratesFound to old new r = HasCleanDisk new → (version : ℕ) → (s : State) → IsReadable version old s → OnOk r (IsMigratedAt (migrated_to version to) old new s)

abbrev pub FailureLeavesFound : {E : Type 0} → ℕ → store.State → store.State → Result (Unit {0}) E → Type 0
FailureLeavesFound to old new r = HasCleanDisk new → (version : ℕ) → (s : State) → IsReadable version old s → OnErr r (FailureLeavesAmid version to old new s)

-- what was migrated had a version, and a known one
abbrev pub MigratesKnownVersion : {E : Type 0} → store.State → store.State → Result (Unit {0}) E → Type 0
MigratesKnownVersion old new r = HasCleanDisk new → OnOk r (HasKnownVersion old.now)

-- none that is above the newest
abbrev pub MigratesNoNewer : {E : Type 0} → store.State → store.State → Result (Unit {0}) E → Type 0
MigratesNoNewer old new r = HasCleanDisk new → OnOk r ((n : ℤ) → IsVersion old.now n → n ≤ℤ pos newest_schema)

-- and what is refused as newer is
abbrev pub RefusesNewer : store.State → store.State → Result (Unit {0}) RaiseFault → Type 0
RefusesNewer old new r = HasCleanDisk new → IfErr r (λ f. (n : ℤ) → f ≡ migration.Newer n → IsVersion old.now n × (pos newest_schema <ℤ n))

-- at any other fault than the store's a stop leaves what it left
abbrev pub WritesAtStore : store.State → store.State → Result (Unit {0}) RaiseFault → Type 0
WritesAtStore old new r = IfErr r (λ f. f ≢ migration.Store → Survives old new (λ _. ⊥))

-- ---- whose rows are at hand: those of the tables of the state, which are those of its version and whole

abbrev pub MigratesRows : ℕ → ℕ → DeskRows → store.State → store.State → Result (Unit {0}) StoreFault → Type 0
MigratesRows version to rows old new r = HasCleanDisk new → (s : State) → IsAtOf version old (tables_of version s)
    → AreKeyed (tables_of version s) → IsWholeIn version s → rows_listed rows ≡ rows_in (tables_of version s)
    → OnOk r (IsMigratedAt to old new s)

abbrev pub FailureLeavesRows : ℕ → ℕ → DeskRows → store.State → store.State → Result (Unit {0}) StoreFault → Type 0
FailureLeavesRows version to rows old new r = HasCleanDisk new → (s : State) → IsAtOf version old (tables_of version s)
    → AreKeyed (tables_of version s) → IsWholeIn version s → rows_listed rows ≡ rows_in (tables_of version s)
    → OnErr r (FailureLeavesAmid version to old new s)

-- ---- tables of a version, whatever state they represent, by so many versions

abbrev pub MigratesBy : ℕ → ℕ → Position → List RowChange → store.State → store.State → Result (Unit {0}) StoreFault → Type 0
MigratesBy version steps position edges old new r = HasCleanDisk new → IsSettled old → (t : Tables) → IsMigratable version old.now t
    → OnOk r (IsAtOf (version + steps) new (migrated_by steps version position edges t) × KeepsOtherTables desk_table_defs old.now new.now)

abbrev pub FailureLeavesBy : ℕ → ℕ → Position → List RowChange → store.State → store.State → Result (Unit {0}) StoreFault → Type 0
FailureLeavesBy version steps position edges old new r = HasCleanDisk new → IsSettled old → (t : Tables) → IsMigratable version old.now t
    → OnErr r (FailureLeavesWithin version steps (λ done. migrated_by done version position edges t) old new)
