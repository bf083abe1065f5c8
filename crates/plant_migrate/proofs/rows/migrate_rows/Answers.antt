use Rattle.std.proofs.Common.{◌≡◌, ◌∙◌, sym, ap, subst}
use Rattle.sqlite.specs.Held.{state}
use Rattle.sql_tables.proofs.TransactionEnds.{IsStore}
use Rattle.sql_tables.proofs.StatementSequence.{survives_none}
use Rattle.plant_view.specs.{tables_of}
use Rattle.plant_migrate.specs.{edges_from, AreEdges}
use Rattle.plant_migrate.proofs.MigratedBySteps.{edges_from_are, listed_from}
use Rattle.plant_migrate.proofs.MigrationEnds.{state_migratable, position_reported, bookings_reported, state_ends, state_cut}
use Rattle.plant_migrate.proofs.NothingWritten.{keeps_itself, not_migrated}
use Rattle.plant_migrate.proofs.rows.migrate_rows.Goals as goal

pub migrate_by-requires-clause-edges : goal.migrate_by-requires-clause-edges
migrate_by-requires-clause-edges g c =
    let booked = c.args.rows.now.movements.items in
    let same : c.as_slice-in-Ok.result.now ≡ edges_from c.args.version booked = listed_from c.args.version _ _ _ booked c.as_slice-in-Ok.ensures.value c.in-Ok.ensures.edges c.as_slice.ensures.value in
    subst AreEdges (sym same) (edges_from_are c.args.version booked)

pub returns-in-Ok-clause-migrated : goal.returns-in-Ok-clause-migrated
returns-in-Ok-clause-migrated g c clean s at keyed whole are =
    let old = state g.S.Store c.args.conn.now in
    let new = state g.S.Store c.migrate_by.new.conn in
    let rows = c.args.rows.now in
    let version = c.args.version in
    let edges = c.as_slice-in-Ok.result.now in
    let same : edges ≡ edges_from version rows.movements.items = listed_from version _ _ _ rows.movements.items c.as_slice-in-Ok.ensures.value c.in-Ok.ensures.edges c.as_slice.ensures.value in
    state_ends version c.args.to s rows.meta.position edges c.requires.known c.requires.low c.requires.newest whole (position_reported version s rows are) (same ∙ ap (edges_from version) (bookings_reported version s rows are)) old new c.migrate_by.result
    (c.migrate_by.ensures.migrated clean at.settled (tables_of version s) (state_migratable version old.now s at.holds keyed))

pub returns-in-Ok-clause-after_failure : goal.returns-in-Ok-clause-after_failure
returns-in-Ok-clause-after_failure g c clean s at keyed whole are =
    let old = state g.S.Store c.args.conn.now in
    let new = state g.S.Store c.migrate_by.new.conn in
    let rows = c.args.rows.now in
    let version = c.args.version in
    let edges = c.as_slice-in-Ok.result.now in
    let same : edges ≡ edges_from version rows.movements.items = listed_from version _ _ _ rows.movements.items c.as_slice-in-Ok.ensures.value c.in-Ok.ensures.edges c.as_slice.ensures.value in
    state_cut version c.args.to s rows.meta.position edges c.requires.known c.requires.low c.requires.newest whole (position_reported version s rows are) (same ∙ ap (edges_from version) (bookings_reported version s rows are)) old new c.migrate_by.result
    (c.migrate_by.ensures.after_failure clean at.settled (tables_of version s) (state_migratable version old.now s at.holds keyed))

pub returns-in-Err-clause-after_failure : goal.returns-in-Err-clause-after_failure
returns-in-Err-clause-after_failure g c clean s at keyed whole are =
    let held = c.args.conn.now in
    let old = state g.S.Store held in
    let store : IsStore old = record { settled = g.met.S.Store.settled held.store; stays = g.met.S.Store.stays held.store; something = g.met.S.Store.survives held.store } in
    not_migrated c.args.version c.args.to old old s at (keeps_itself old) store clean (survives_none old)
