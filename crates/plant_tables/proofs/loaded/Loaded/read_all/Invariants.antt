use Rattle.std.proofs.Common.{◌≡◌, ◌<◌, false, IsTrue, length}
use Rattle.sqlite.specs.State.{HasCleanDisk, IsUnchanged, Survives}
use Rattle.sqlite.specs.Held.{state}
use Rattle.sql_queries.specs.{comes_before, Lists}
use Rattle.sql_queries.specs.Rises.{Rises}
use Rattle.plant_tables.specs.{table_defs_of}
use Rattle.plant_tables.proofs.FirstTablesRead.{Front}
use Rattle.plant_tables.proofs.loaded.Loaded.read_all.Given as goal

-- the first tables were read, and the connection is as it was
abbrev pub invariant-loop-reading : goal.invariant-loop-reading
invariant-loop-reading g l =
    let old = state g.S.Store l.fn.conn in
    let now = state g.S.Store l.conn in
    (length l.tables.items ≡ l.reading-index)
    × Front (λ table_def rows. Rises (comes_before table_def) rows) (table_defs_of l.fn.schema) l.reading-index l.tables.items
    × ((old.in_transaction ≡ false) → now.in_transaction ≡ false)
    × Survives old now (λ _. ⊥)
    × (HasCleanDisk now → Front (Lists old.now) (table_defs_of l.fn.schema) l.reading-index l.tables.items × (IsTrue now.is_open → IsUnchanged old now) × (0 < l.reading-index → IsTrue now.is_open))
