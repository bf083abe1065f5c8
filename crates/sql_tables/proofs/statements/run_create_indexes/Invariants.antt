use Rattle.std.proofs.Common.{◌≡◌, List, map, IsTrue, true}
use Rattle.sqlite.specs.State.{HasCleanDisk, Survives, KeepsCommit, Shows}
use Rattle.sqlite.specs.Held.{state}
use Rattle.sql_tables.specs.{TableDef, IndexDef, AreOf, AreCreateIndexStatements}
use Rattle.sql_tables.proofs.CreateIndexes.{Indexing}
use Rattle.sql_tables.proofs.statements.run_create_indexes.Given as goal

abbrev pub invariant-loop-text : goal.invariant-loop-text
invariant-loop-text g l = record {
  same : l.tx.conn.ghost_name ≡ l.fn.tx.conn.ghost_name;
  wrote : Survives (state g.S.Store l.fn.tx.conn.now) (state g.S.Store l.tx.conn.now) (λ _. ⊥);
  kept : HasCleanDisk (state g.S.Store l.tx.conn.now) → KeepsCommit (state g.S.Store l.fn.tx.conn.now) (state g.S.Store l.tx.conn.now);
  inside : HasCleanDisk (state g.S.Store l.tx.conn.now) → IsTrue (state g.S.Store l.fn.tx.conn.now).is_open → IsTrue (state g.S.Store l.fn.tx.conn.now).in_transaction
      → Shows (state g.S.Store l.fn.tx.conn.now) (state g.S.Store l.tx.conn.now) (state g.S.Store l.tx.conn.now).now (state g.S.Store l.fn.tx.conn.now).committed true;
  indexing : HasCleanDisk (state g.S.Store l.tx.conn.now) → (table_defs : List TableDef) (indexes : List IndexDef) → AreOf indexes table_defs → AreCreateIndexStatements (map (λ text. text.sql.now) l.texts) indexes
      → Indexing table_defs indexes l.text-index (state g.S.Store l.fn.tx.conn.now) (state g.S.Store l.tx.conn.now);
}
