-- The migration of the tables of a schema to the next.
use Rattle.std.specs.Prelude.{ℕ, ◌+◌, ◌≤◌, ◌<◌, List, [], ◌∷◌, ◌++◌}
use Rattle.sqlite.specs.Effect.{Database}
use Rattle.plant_base.specs.{newest_schema, Position}
use Rattle.plant_view.specs.{changed_all, RowChange}
use Rattle.plant_view.specs.TableRows.{Tables}
use Rattle.plant_view.specs.declared.change.RowChange.TheVariants as change
use Rattle.sql_tables.specs.{KeepsOtherTables, AreFree}
use Rattle.plant_tables.specs.DeskTableDefs.{desk_table_defs, later_table_defs}
use Rattle.plant_tables.specs.Keyed.{HoldsTablesOf, AreFresh, AreOfSchema}
use Rattle.plant_tables.specs.KeyedRows.{LacksLater, AreKeyed}

-- a schema that isn't the newest
abbrev pub IsOlder : ℕ → Type 0
IsOlder version = (1 ≤ version) × (version < newest_schema)

-- the rows that are added, and then the next schema at this position
abbrev pub migration : ℕ → Position → List RowChange → List RowChange
migration version position added = added ++ change.Meta (record { schema = version + 1; position = position }) ∷ []

-- The database holds these tables of a schema, with keys in their order and no rows of later tables, those can be made, and
-- the rows can be added to the tables of the next schema.
pub record AreMigratable (version : ℕ) (added : List RowChange) (db : Database) (t : Tables) : Type 0 where
  pub holds : HoldsTablesOf version db t
  pub keyed : AreKeyed t
  pub lacks : LacksLater version t
  pub free : AreFree (later_table_defs version) db.schema
  pub fresh : AreFresh added t
  pub kept : AreOfSchema (version + 1) added

-- From any such tables of an older schema that the one database holds, the other holds the migrated ones of the next, foreign
-- tables are as they were, and those that later ones add can still be made.
abbrev pub MigratesTables : ℕ → Position → List RowChange → Database → Database → Type 0
MigratesTables version position added old new =
    IsOlder version → (t : Tables) → AreMigratable version added old t → HoldsTablesOf (version + 1) new (changed_all (migration version position added) t) × KeepsOtherTables desk_table_defs old new × AreFree (later_table_defs (version + 1)) new.schema
