use Rattle.std.proofs.Common.{◌≡◌, ◌<◌, false}
use Rattle.sqlite.specs.Held.{state}
use Rattle.sqlite.specs.State.{HasCleanDisk, Survives}
use Rattle.plant_view.specs.TableRows.{Tables}
use Rattle.sql_tables.specs.{AreFree, IsSettled}
use Rattle.plant_tables.specs.{later_table_defs}
use Rattle.plant_migrate.specs.{IsMigratable, IsMigratedBy}
use Rattle.plant_migrate.proofs.StepsCompose.{IsReached}
use Rattle.plant_migrate.proofs.steps.migrate_by.Given as goal

-- so many steps were made
abbrev pub invariant-loop-done : goal.invariant-loop-done
invariant-loop-done g l =
    let old = state g.S.Store l.fn.conn in
    let now = state g.S.Store l.conn in
    record {
      mode : l.conn.in_transaction ≡ false;
      first : l.done ≡ 0 → l.conn ≡ l.fn.conn;
      free : 0 < l.done → AreFree (later_table_defs l.fn.version) old.now.schema;
      reached : HasCleanDisk now → IsSettled old → (t : Tables) → IsMigratable l.fn.version old.now t → IsSettled now × IsReached l.fn.version l.done l.position l.edges old.now now.now t;
      survives : Survives old now (IsMigratedBy l.fn.version l.done l.position l.edges old);
    }
