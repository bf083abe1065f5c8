use Rattle.std.proofs.Common.{◌≡◌, List, map, IsTrue, true}
use Rattle.sqlite.specs.State.{HasCleanDisk, Survives, KeepsCommit, Shows}
use Rattle.sqlite.specs.Held.{state}
use Rattle.sql_tables.specs.{TableDef, AreApart, AreCreateStatements}
use Rattle.sql_tables.proofs.CreateTables.{Founding}
use Rattle.sql_tables.proofs.statements.create_tables.Given as goal

abbrev pub invariant-loop-text : goal.invariant-loop-text
invariant-loop-text g l = record {
  same : l.tx.conn.ghost_name ≡ l.fn.tx.conn.ghost_name;
  wrote : Survives (state g.S.Store l.fn.tx.conn.now) (state g.S.Store l.tx.conn.now) (λ _. ⊥);
  kept : HasCleanDisk (state g.S.Store l.tx.conn.now) → KeepsCommit (state g.S.Store l.fn.tx.conn.now) (state g.S.Store l.tx.conn.now);
  inside : HasCleanDisk (state g.S.Store l.tx.conn.now) → IsTrue (state g.S.Store l.fn.tx.conn.now).is_open → IsTrue (state g.S.Store l.fn.tx.conn.now).in_transaction
      → Shows (state g.S.Store l.fn.tx.conn.now) (state g.S.Store l.tx.conn.now) (state g.S.Store l.tx.conn.now).now (state g.S.Store l.fn.tx.conn.now).committed true;
  founding : HasCleanDisk (state g.S.Store l.tx.conn.now) → (table_defs : List TableDef) → AreApart table_defs → AreCreateStatements (map (λ text. text.now) l.texts) table_defs
      → Founding table_defs l.text-index (state g.S.Store l.fn.tx.conn.now) (state g.S.Store l.tx.conn.now);
}
