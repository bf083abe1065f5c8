-- What calls below the desk came to, as the desk and an adoption report it.
use Rattle.std.specs.Prelude.{ℕ, ℤ, pos, negsuc, nat_lt, if◌then◌else◌, Option, Some, None, Result, Ok, Err}
use Rattle.sql_tables.specs.{StoreFault}
use Rattle.sql_tables.specs.declared.fault.StoreFault.TheVariants as below
use Rattle.plant_base.specs.{newest_schema}
use Rattle.plant_view.specs.{ViewFault}
use Rattle.plant_view.specs.declared.fault.ViewFault.TheVariants as view
use Rattle.plant_check_rules.specs.declared.rule.Rule.TheVariants as rule
use Rattle.plant_tables.specs.{FoundTables, Loaded}
use Rattle.plant_tables.specs.declared.finding.FoundTables.TheVariants as tables
use Rattle.plant_questions.specs.{DeskFault}
use Rattle.plant_questions.specs.declared.reply.DeskFault.TheVariants as desk
use Rattle.plant_desk_store.specs.declared.adopting.AdoptFault.{AdoptFault}
use Rattle.plant_desk_store.specs.declared.adopting.AdoptFault.TheVariants as adopting

-- a fault of the store, as the desk reports it
abbrev pub desk_fault : StoreFault → DeskFault
desk_fault below.Store = desk.Store
desk_fault below.Memory = desk.Memory

-- a fault of lookups, or of what is made of their rows
abbrev pub lookup_fault : ViewFault StoreFault → DeskFault
lookup_fault (view.View f) = desk_fault f
lookup_fault view.Memory = desk.Memory

-- a fault of the store, as an adoption reports it
abbrev pub adopt_fault : StoreFault → AdoptFault
adopt_fault below.Store = adopting.Store
adopt_fault below.Memory = adopting.Memory

-- what lookups came to
abbrev pub looked_up : {A : Type 0} → Result A (ViewFault StoreFault) → Result A DeskFault
looked_up (Ok a) = Ok a
looked_up (Err f) = Err (lookup_fault f)

-- the rows that a test reads: a table that isn't declared as its definition says is a fault of the store
abbrev pub rows_to_test : Result (Option Loaded) StoreFault → Result Loaded DeskFault
rows_to_test (Ok (Some x)) = Ok x
rows_to_test (Ok None) = Err desk.Store
rows_to_test (Err f) = Err (desk_fault f)

-- the rows that an adoption reads: there such a table breaks the first rule
abbrev pub rows_to_adopt : Result (Option Loaded) StoreFault → Result Loaded AdoptFault
rows_to_adopt (Ok (Some x)) = Ok x
rows_to_adopt (Ok None) = Err (adopting.Damaged rule.Tables)
rows_to_adopt (Err f) = Err (adopt_fault f)

-- The schema of the version in table meta, where it is known; a number below 0, which meta can't have, is that of none.
abbrev pub schema_of_version : ℤ → Result (Option ℕ) AdoptFault
schema_of_version (pos n) = if nat_lt newest_schema n then Err (adopting.Newer n) else Ok (Some n)
schema_of_version (negsuc n) = Ok (Some 0)

-- what an adoption finds: none of the desk's tables, or those of a schema
abbrev pub schema_found : Result FoundTables StoreFault → Result (Option ℕ) AdoptFault
schema_found (Ok tables.Nothing) = Ok None
schema_found (Ok tables.NoMeta) = Err (adopting.Damaged rule.Tables)
schema_found (Ok (tables.Version v)) = schema_of_version v
schema_found (Err f) = Err (adopt_fault f)
