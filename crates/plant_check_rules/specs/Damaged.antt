-- Tables that break a rule, in a database.
use Rattle.std.specs.Prelude.{◌≡◌, ◌⊎◌, ◌<◌, ℕ, ℤ, pos, All, Some}
use Rattle.sqlite.specs.Effect.{Database}
use Rattle.plant_base.specs.{newest_schema}
use Rattle.sql_tables.specs.{IsFree}
use Rattle.plant_tables.specs.{desk_table_defs}
use Rattle.plant_tables.specs.{AreLoaded, IsVersion, HasTablesOf, Loaded}
use Rattle.plant_check_rules.specs.Rules.{first_broken}
use Rattle.plant_check_rules.specs.declared.rule.Rule.{Rule}
use Rattle.plant_check_rules.specs.declared.rule.Rule.TheVariants as rule

-- table meta isn't there with one valid row, or the tables of its version aren't declared as their definitions say, or one that a
-- later version adds is there
abbrev pub LacksTables : Database → Type 0
LacksTables db = ((n : ℤ) → ¬ IsVersion db n) ⊎ ((version : ℕ) × IsVersion db (pos version) × ¬ HasTablesOf version db.schema)

-- the tables of the version in meta are declared as their definitions say, with none of a later one, and their rows break this rule first
abbrev pub AreFirstBroken : Database → Rule → Type 0
AreFirstBroken db r = (version : ℕ) × IsVersion db (pos version) × HasTablesOf version db.schema × ((x : Loaded) × AreLoaded version db x × (first_broken x ≡ Some r))

-- this is the first rule that the tables break
abbrev pub IsFirstBroken : Database → Rule → Type 0
IsFirstBroken db r = ((r ≡ rule.Tables) × LacksTables db) ⊎ AreFirstBroken db r

-- There is something of the desk, for not all of its tables' names are free; table meta has no version above the
-- newest; and this is the first rule that the tables break.
pub record IsDamaged (db : Database) (r : Rule) : Type 0 where
  pub taken : ¬ All (IsFree db.schema) desk_table_defs
  pub known : (n : ℕ) → newest_schema < n → ¬ IsVersion db (pos n)
  pub broken : IsFirstBroken db r
