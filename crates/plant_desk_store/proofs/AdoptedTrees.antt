-- What an adoption may have made of a database.
use Rattle.std.proofs.Common.{◌≡◌, ℕ, ◌+◌, ◌-◌, ◌≤◌, sym, ap, subst, arith}
use Rattle.sqlite.specs.Tree.{Trees}
use Rattle.sqlite.specs.Effect.{Database, IsDatabase}
use Rattle.sqlite.specs.State as store
use Rattle.plant_base.specs.{State, newest_schema}
use Rattle.plant_view.specs.{tables_of}
use Rattle.sql_tables.specs.{AreFree, IsSettled}
use Rattle.plant_tables.specs.{desk_table_defs, FindsTables, opening_tables}
use Rattle.plant_tables.specs.{rows_in, rows_listed, DeskRows}
use Rattle.plant_invariant_tables.proofs.RowsInKeyOrder.{keyed}
use Rattle.plant_migrate.specs.{edges_from, IsMigratedBy}
use Rattle.plant_migrate.proofs.MigrationEnds.{position_reported, bookings_reported, finds_migrated}
use Rattle.plant_desk_store.specs.{HoldsValidState, AreMade, IsMigrated}
use Rattle.plant_desk_store.specs.Adopting.{IsOpened}

pub opened : (old : Database) (trees : Trees) → AreFree desk_table_defs old.schema → IsDatabase old → AreMade old trees → IsOpened old trees
opened old trees free sound are =
    let made = are.1 sound free in
    record {
      free = free;
      finds = subst (λ (d : Trees). FindsTables old d opening_tables) (sym are.2) (record { schema = are.0.schema; holds = made.0; others = made.1 });
    }

-- valid tables were migrated from rows that are those of whatever valid state was there
pub migrated_from : (schema : ℕ) (old : store.State) (trees : Trees) (rows : DeskRows) → IsSettled old → (s : State) × HoldsValidState schema old.now s → ((s : State) → HoldsValidState schema old.now s → rows_listed rows ≡ rows_in (tables_of schema s))
    → IsMigratedBy schema (newest_schema - schema) rows.meta.position (edges_from schema rows.movements.items) old trees → IsMigrated old.now trees
migrated_from schema old trees rows settled represented reported made =
    let high : schema ≤ newest_schema = represented.1.known.1 in
    record {
      version = schema;
      later = schema + made.done;
      above = omega (arith, made.some);
      known = omega (arith, made.few, high);
      represented = represented;
      free = made.free;
      finds = λ s held.
          let are = reported s held in
          finds_migrated schema newest_schema s rows.meta.position (edges_from schema rows.movements.items) held.known.0 held.known.1 (omega arith) held.whole
          (position_reported schema s rows are) (ap (edges_from schema) (bookings_reported schema s rows are)) old trees settled held.holds (keyed schema s held.valid) made;
    }
