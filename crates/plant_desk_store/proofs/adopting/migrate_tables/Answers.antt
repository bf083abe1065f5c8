use Rattle.std.proofs.Common.{ap, rules}
use Rattle.sqlite.specs.Held.{state}
use Rattle.sql_tables.proofs.TransactionEnds.{IsStore}
use Rattle.plant_base.specs.{newest_schema}
use Rattle.plant_view.specs.{tables_of}
use Rattle.plant_invariant_tables.proofs.RowsInKeyOrder.{keyed}
use Rattle.plant_desk_store.proofs.CheckedStore.{rises, reported_shows, reported_known, reported_unmade}
use Rattle.plant_desk_store.proofs.ForeignTablesKept.{others_at}
use Rattle.plant_desk_store.proofs.ReadingKeepsState.{open_at}
use Rattle.plant_desk_store.proofs.adopting.migrate_tables.Goals as goal

pub returns-in-Ok : goal.returns-in-Ok
returns-in-Ok g c =
    let old = state g.S.Store c.args.connection.now in
    let end = c.migrate_rows.new.conn in
    let new = state g.S.Store end in
    let laws : IsStore new = record { settled = g.met.S.Store.settled end.store; stays = g.met.S.Store.stays end.store; something = g.met.S.Store.survives end.store } in
    record {
      rests = search rules;
      migrated = λ clean settled s held are.
          let done = c.in-Ok.ensures.migrated clean s (record { settled = settled; holds = held.holds }) (keyed c.args.schema s held.valid) held.whole are in
          (open_at new s held.valid done.0 clean laws, others_at old.now new (tables_of newest_schema s) done.0 done.1);
      reported = tt;
      unmade = tt;
      crash = search rules;
    }

pub returns-in-Err : goal.returns-in-Err
returns-in-Err g c =
    let old = state g.S.Store c.args.connection.now in
    let new = state g.S.Store c.migrate_rows.new.conn in
    record {
      rests = search rules;
      migrated = λ clean settled s held are.
          let cut = c.in-Err.ensures.after_failure clean s (record { settled = settled; holds = held.holds }) (keyed c.args.schema s held.valid) held.whole are in (
            rises c.args.schema old new s held cut,
            reported_shows c.args.schema old new s c.in-Err.fault c.fault_of.result settled held cut (λ memory. ap (λ held. state g.S.Store held) (c.in-Err.ensures.write_error memory)) c.fault_of.ensures,
          );
      reported = reported_known c.in-Err.fault c.fault_of.result c.fault_of.ensures;
      unmade = reported_unmade old new c.in-Err.fault c.fault_of.result c.fault_of.ensures (λ memory. ap (λ held. state g.S.Store held) (c.in-Err.ensures.write_error memory));
      crash = search rules;
    }
