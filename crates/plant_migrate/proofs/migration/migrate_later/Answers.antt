use Rattle.std.proofs.Common.{◌≡◌, ◌∙◌, ◌-◌, [], Some, sym, ap, subst, arith}
use Rattle.sqlite.specs.Held.{Held, state}
use Rattle.sqlite.specs.State.{HasCleanDisk, IsUnchanged}
use Rattle.sqlite.proofs.StateLemmas.{survives_then}
use Rattle.plant_view.specs.{tables_of, position_of}
use Rattle.sql_tables.proofs.TransactionEnds.{IsStore}
use Rattle.plant_tables.specs.{IsAtOf}
use Rattle.plant_tables_columns.specs.{only_meta}
use Rattle.plant_migrate.specs.{IsMigratedBy}
use Rattle.plant_migrate.proofs.MigratedBySteps.{none_from}
use Rattle.plant_migrate.proofs.MigrationEnds.{state_migratable, state_ends, state_cut}
use Rattle.plant_migrate.proofs.NothingWritten.{at_still, settled_still, not_migrated}
use Rattle.plant_migrate.proofs.RowsBeforeMigration.{meta_read, ends_since, cut_since, later_migrated}
use Rattle.plant_migrate.proofs.ChangesOfState.{bookings}
use Rattle.plant_migrate.proofs.migration.migrate_later.Given.{Over}
use Rattle.plant_migrate.proofs.migration.migrate_later.Goals as goal

-- the store of a connection obeys the laws of stores
is_store : (g : Over) (held : Held _) → IsStore (state g.S.Store held)
is_store g held = record { settled = g.met.S.Store.settled held.store; stays = g.met.S.Store.stays held.store; something = g.met.S.Store.survives held.store }

pub returns-in-Err-clause-after_failure : goal.returns-in-Err-clause-after_failure
returns-in-Err-clause-after_failure g c clean s readable =
    not_migrated c.args.version c.args.to _ _ s readable.at (c.read_meta.ensures.kept clean) (is_store g c.read_meta.new.conn) clean c.read_meta.ensures.crash

pub returns-clause-after_failure : goal.returns-clause-after_failure
returns-clause-after_failure g c clean s readable =
    not_migrated c.args.version c.args.to _ _ s readable.at (c.read_meta.ensures.kept clean) (is_store g c.read_meta.new.conn) clean c.read_meta.ensures.crash

pub returns-in-Some-clause-migrated : goal.returns-in-Some-clause-migrated
returns-in-Some-clause-migrated g c clean s readable =
    let version = c.args.version in
    let old = state g.S.Store c.args.conn.now in
    let mid = state g.S.Store c.read_meta.new.conn in
    let new = state g.S.Store c.migrate_by.new.conn in
    let was : HasCleanDisk mid = omega (arith, clean, c.migrate_by.ensures.survives.clean) in
    let store = is_store g c.read_meta.new.conn in
    let same : IsUnchanged old mid = c.in-Ok.ensures.same was in
    let reported : Some c.in-Some.meta ≡ only_meta c.in-Ok.stored.items = c.in-Some.ensures ∙ ap only_meta c.as_slice.ensures.value in
    let placed : c.in-Some.meta.position ≡ position_of s = meta_read version old s c.in-Ok.stored.items c.in-Some.meta readable (c.in-Ok.ensures.rows was) reported in
    let at : IsAtOf version mid (tables_of version s) = at_still version old mid (tables_of version s) readable.at (c.read_meta.ensures.kept was) store same.0.is_open in
    ends_since c.args.to old mid new s c.migrate_by.result same.0.now_is
    (state_ends version c.args.to s c.in-Some.meta.position [] (omega (arith, c.requires.later)) (omega (arith, c.requires.below)) c.requires.newest readable.whole placed (sym (none_from version (bookings s) c.requires.later)) mid new c.migrate_by.result
    (c.migrate_by.ensures.migrated clean at.settled (tables_of version s) (state_migratable version mid.now s at.holds readable.ordered.keyed)))

pub returns-in-Some-clause-after_failure : goal.returns-in-Some-clause-after_failure
returns-in-Some-clause-after_failure g c clean s readable =
    let version = c.args.version in
    let old = state g.S.Store c.args.conn.now in
    let mid = state g.S.Store c.read_meta.new.conn in
    let new = state g.S.Store c.migrate_by.new.conn in
    let was : HasCleanDisk mid = omega (arith, clean, c.migrate_by.ensures.survives.clean) in
    let store = is_store g c.read_meta.new.conn in
    let same : IsUnchanged old mid = c.in-Ok.ensures.same was in
    let reported : Some c.in-Some.meta ≡ only_meta c.in-Ok.stored.items = c.in-Some.ensures ∙ ap only_meta c.as_slice.ensures.value in
    let placed : c.in-Some.meta.position ≡ position_of s = meta_read version old s c.in-Ok.stored.items c.in-Some.meta readable (c.in-Ok.ensures.rows was) reported in
    let at : IsAtOf version mid (tables_of version s) = at_still version old mid (tables_of version s) readable.at (c.read_meta.ensures.kept was) store same.0.is_open in
    cut_since version c.args.to old mid new s c.migrate_by.result same.0.now_is
    (state_cut version c.args.to s c.in-Some.meta.position [] (omega (arith, c.requires.later)) (omega (arith, c.requires.below)) c.requires.newest readable.whole placed (sym (none_from version (bookings s) c.requires.later)) mid new c.migrate_by.result
    (c.migrate_by.ensures.after_failure clean at.settled (tables_of version s) (state_migratable version mid.now s at.holds readable.ordered.keyed)))

pub returns-in-Some-clause-crash : goal.returns-in-Some-clause-crash
returns-in-Some-clause-crash g c =
    let version = c.args.version in
    let old = state g.S.Store c.args.conn.now in
    let mid = state g.S.Store c.read_meta.new.conn in
    let new = state g.S.Store c.migrate_by.new.conn in
    let store = is_store g c.read_meta.new.conn in
    survives_then old mid new _ _ _ (λ _ db none. absurd none)
    (λ clean trees made.
    let was : HasCleanDisk mid = omega (arith, clean, c.migrate_by.ensures.survives.clean) in
    let same : IsUnchanged old mid = c.in-Ok.ensures.same was in
    let reported : Some c.in-Some.meta ≡ only_meta c.in-Ok.stored.items = c.in-Some.ensures ∙ ap only_meta c.as_slice.ensures.value in
    let edged = subst (λ cs. IsMigratedBy version (c.args.to - version) c.in-Some.meta.position cs mid trees) (sym (none_from version [] c.requires.later)) made in
    later_migrated version c.args.to old mid trees c.in-Ok.stored.items c.in-Some.meta c.requires.later same.0.now_is (λ settled. settled_still old mid settled (c.read_meta.ensures.kept was) store same.0.is_open) (c.in-Ok.ensures.rows was) reported edged) c.read_meta.ensures.crash c.migrate_by.ensures.survives
