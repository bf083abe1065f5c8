-- The outcome of a test of all tables.
use Rattle.std.specs.Prelude.{◌≡◌, ℕ, Option, Some, None, ⊤}
use Rattle.sqlite.specs.Effect.{Database}
use Rattle.plant_tables.specs.{AreLoaded, DeskRows, Loaded, Rows, rows_from, rows_listed}
use Rattle.plant_base.specs.{newest_schema}
use Rattle.plant_check_rules.specs.{first_broken, first_broken_of, Rule}
use Rattle.plant_desk_store.specs.declared.check_error.CheckError.{CheckError}
use Rattle.plant_desk_store.specs.declared.check_error.CheckError.TheVariants as check_error

-- each table is declared as its definition says, and this is the first rule that their rows break, where they break one
abbrev pub IsTested : Database → Option Rule → Type 0
IsTested db broken = (x : Loaded) × AreLoaded newest_schema db x × (broken ≡ first_broken x)

-- the loaded rows aren't those of a desk of this schema: a value or a rule is broken, or the schema is another
abbrev pub FailsChecks : Loaded → ℕ → Type 0
FailsChecks x schema = (r : Rows) → rows_from x ≡ Some r → first_broken_of r ≡ None → ¬ (r.meta.schema ≡ schema)

-- ---- what is judged

-- these are the loaded rows, which break no rule and are of this schema
pub record PassesChecks (x : Loaded) (schema : ℕ) (rows : DeskRows) : Type 0 where
  pub read : rows_from x ≡ Some (rows_listed rows)
  pub unbroken : first_broken_of (rows_listed rows) ≡ None
  pub whole : first_broken x ≡ None
  pub reports : rows.meta.schema ≡ schema

-- the reason why loaded rows aren't fit holds
abbrev pub FailsChecksBy : Loaded → ℕ → CheckError → Type 0
FailsChecksBy x schema (check_error.Broken r) = first_broken x ≡ Some r
FailsChecksBy x schema check_error.Schema = (first_broken x ≡ None) × FailsChecks x schema
FailsChecksBy x schema check_error.Memory = ⊤

-- the same of rows whose values obey their rules
pub record PassesChecksOf (rows : DeskRows) (schema : ℕ) (found : DeskRows) : Type 0 where
  pub same : found ≡ rows
  pub unbroken : first_broken_of (rows_listed rows) ≡ None
  pub reports : rows.meta.schema ≡ schema

abbrev pub FailsChecksOf : DeskRows → ℕ → CheckError → Type 0
FailsChecksOf rows schema (check_error.Broken r) = first_broken_of (rows_listed rows) ≡ Some r
FailsChecksOf rows schema check_error.Schema = (first_broken_of (rows_listed rows) ≡ None) × ¬ (rows.meta.schema ≡ schema)
FailsChecksOf rows schema check_error.Memory = ⊤
