-- What the calls that look for the tables of a desk and read them promise, each of the store before and after it and of its result.
use Rattle.std.specs.Prelude.{◌≡◌, ◌↔◌, ℕ, ℤ, Result, Option, IfOk, IfErr, IfSome}
use Rattle.sqlite.specs.State.{State, HasCleanDisk, IsUnchanged}
use Rattle.sql_tables.specs.{HasTable, HaveStoredRows, StoreFault}
use Rattle.sql_tables.specs.declared.fault.StoreFault.TheVariants.{Memory}
use Rattle.sql_queries.specs.{IsRising}
use Rattle.plant_tables.specs.DeskTableDefs.{table_defs_of, meta_table}
use Rattle.plant_tables.specs.Loading.{AreLoaded, contents_loaded}
use Rattle.plant_tables.specs.Version.{IsKnown, IsVersion, HasTablesOf}
use Rattle.plant_tables.specs.declared.finding.FoundTables.{FoundTables}
use Rattle.plant_tables.specs.declared.finding.FoundTables.TheVariants.{Version}
use Rattle.plant_tables.specs.declared.loaded.Loaded.{Loaded}

-- ---- which tables there are

-- they are found in a version exactly where table meta has it
abbrev pub FindsVersion : State → State → Result FoundTables StoreFault → Type 0
FindsVersion old new r = HasCleanDisk new → IfOk r (λ found. (n : ℤ) → (found ≡ Version n) ↔ IsVersion old.now n)

-- and then nothing was changed
abbrev pub FindsVersionUnchanged : State → State → Result FoundTables StoreFault → Type 0
FindsVersionUnchanged old new r = HasCleanDisk new → IfOk r (λ found. (n : ℤ) → found ≡ Version n → IsUnchanged old new)

-- memory is wanted for a row of table meta alone
abbrev pub WantsMeta : {A : Type 0} → State → State → Result A StoreFault → Type 0
WantsMeta old new r = HasCleanDisk new → IfErr r (λ fault. fault ≡ Memory → HasTable old.now.schema meta_table)

-- ---- their rows

-- what is found of the tables of the schema are all their rows
abbrev pub FindsLoaded : ℕ → State → State → Result (Option Loaded) StoreFault → Type 0
FindsLoaded schema old new r = HasCleanDisk new → IfOk r (λ found. IfSome found (AreLoaded schema old.now))

-- with the stored rows of each table, where the rowids of each rise
abbrev pub FindsStored : ℕ → State → State → Result (Option Loaded) StoreFault → Type 0
FindsStored schema old new r = HasCleanDisk new → IsRising old.now → IfOk r (λ found. IfSome found (λ loaded. HaveStoredRows (table_defs_of schema) old.now (contents_loaded loaded)))

-- where tables of a known schema are missing, that is reported, and no fault
abbrev pub ReportsLacking : ℕ → State → Result (Option Loaded) StoreFault → Type 0
ReportsLacking schema old r = IsKnown schema → ¬ HasTablesOf schema old.now.schema → IfErr r (λ _. ⊥)
