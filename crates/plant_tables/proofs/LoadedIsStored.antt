-- The tables have what was loaded, as the writing side asks.
use Rattle.std.proofs.Common.{ℕ}
use Rattle.sqlite.specs.Effect.{Database, IsDatabase}
use Rattle.sql_tables.specs.{HaveStoredRows}
use Rattle.sql_queries.specs.{IsRising}
use Rattle.sql_queries.proofs.TableIsKnown.{listed_stands}
use Rattle.plant_tables.specs.{table_defs_of}
use Rattle.plant_tables.specs.declared.loaded.Loaded.{Loaded}
use Rattle.plant_tables.specs.{AreLoaded, contents_loaded}

pub loaded_is_stored : (schema : ℕ) (db : Database) (x : Loaded) → IsDatabase db → IsRising db → AreLoaded schema db x → HaveStoredRows (table_defs_of schema) db (contents_loaded x)
loaded_is_stored schema db x sound rising are = record {
  sound = sound;
  each = λ place table_def is. listed_stands db table_def (contents_loaded x place) rising (are.tables place table_def is).rows;
}
