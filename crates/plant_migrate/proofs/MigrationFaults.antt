-- The fault of a migration reports that of its store.
use Rattle.std.proofs.Common.{◌≡◌, ◌≢◌, refl}
use Rattle.sql_tables.specs.{StoreFault}
use Rattle.sql_tables.specs.declared.fault.StoreFault.TheVariants as fault
use Rattle.plant_migrate.specs.{raise_fault}
use Rattle.plant_migrate.specs.declared.migration.RaiseFault.{RaiseFault}
use Rattle.plant_migrate.specs.declared.migration.RaiseFault.TheVariants as migration

-- what isn't reported as the store's is want of memory
pub memory_alone : (f : StoreFault) → {reported : RaiseFault} → reported ≡ raise_fault f → reported ≢ migration.Store → f ≡ fault.Memory
memory_alone fault.Store is other = absurd (other is)
memory_alone fault.Memory is other = refl
