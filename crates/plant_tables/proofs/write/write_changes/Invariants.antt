use Rattle.std.proofs.Common.{◌≡◌, ℕ, take}
use Rattle.sqlite.specs.State.{HasCleanDisk, Survives, KeepsCommit}
use Rattle.sqlite.specs.Held.{state}
use Rattle.sql_tables.specs.Moves.{Moves}
use Rattle.plant_tables.specs.{table_defs_of, all_rows_changed, AreOfSchema}
use Rattle.plant_tables.proofs.write.write_changes.Given as goal

abbrev pub invariant-loop-change : goal.invariant-loop-change
invariant-loop-change g l = record {
  same : l.tx.conn.ghost_name ≡ l.fn.tx.conn.ghost_name;
  wrote : Survives (state g.S.Store l.fn.tx.conn.now) (state g.S.Store l.tx.conn.now) (λ _. ⊥);
  kept : HasCleanDisk (state g.S.Store l.tx.conn.now) → KeepsCommit (state g.S.Store l.fn.tx.conn.now) (state g.S.Store l.tx.conn.now);
  moved : HasCleanDisk (state g.S.Store l.tx.conn.now) → (schema : ℕ) → AreOfSchema schema l.changes → Moves (table_defs_of schema) (state g.S.Store l.fn.tx.conn.now) (state g.S.Store l.tx.conn.now) (all_rows_changed (take l.change-index l.changes));
}
