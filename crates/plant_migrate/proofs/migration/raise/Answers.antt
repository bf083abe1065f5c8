use Rattle.std.proofs.Common.{◌≡◌, ◌≤◌, ◌<◌, pos, subst, rules, w64, ◌≤ℤ◌}
use mir.Val.{SFits}
use Rattle.sqlite.specs.Held.{Held, state}
use Rattle.sqlite.specs.State.{HasCleanDisk, IsUnchanged, Survives}
use Rattle.sqlite.proofs.StateLemmas.{survives_then, survives_weaker}
use Rattle.plant_base.specs.{newest_schema}
use Rattle.plant_view.specs.{tables_of}
use Rattle.sql_tables.proofs.TransactionEnds.{IsStore}
use Rattle.plant_tables.specs.{IsVersion}
use Rattle.plant_tables.proofs.OneVersion.{one_version}
use Rattle.plant_migrate.specs.{IsMigratedTo}
use Rattle.plant_migrate.proofs.NothingWritten.{settled_still, not_migrated}
use Rattle.plant_migrate.proofs.KnownVersion.{version_is, not_below, below, has_known_version, stays_at, handed_on, rises_to, cut_from, migrated_reported}
use Rattle.plant_migrate.proofs.MigrationFaults.{memory_alone}
use Rattle.plant_migrate.proofs.migration.raise.Given.{Over}
use Rattle.plant_migrate.proofs.migration.raise.Goals.{After-migrate_from}
use Rattle.plant_migrate.proofs.migration.raise.Goals as goal

-- the store of a connection obeys the laws of stores
is_store : (g : Over) (held : Held _) → IsStore (state g.S.Store held)
is_store g held = record { settled = g.met.S.Store.settled held.store; stays = g.met.S.Store.stays held.store; something = g.met.S.Store.survives held.store }

pub returns-then-version-clause-after_failure : goal.returns-then-version-clause-after_failure
returns-then-version-clause-after_failure g c clean version s readable =
    not_migrated version c.args.to _ _ s readable.at (c.found.ensures.kept clean) (is_store g c.found.new.conn) clean c.found.ensures.crash

pub returns-then-version-to-clause-migrated : goal.returns-then-version-to-clause-migrated
returns-then-version-to-clause-migrated g c was version s readable =
    let old = state g.S.Store c.args.conn.now in
    let mid = state g.S.Store c.found.new.conn in
    let store = is_store g c.found.new.conn in
    let same : IsUnchanged old mid = c.in-Ok-Version.ensures.same was _ c.in-Ok-Version.field-0-is in
    let reported : IsVersion old.now c.in-Ok-Version.version = (c.in-Ok-Version.ensures.version was _).0 c.in-Ok-Version.field-0-is in
    let is : c.in-Ok-Version.version ≡ pos version = version_is version old.now (tables_of version s) c.in-Ok-Version.version readable.at.holds reported in
    let fits : SFits w64 c.in-Ok-Version.version = search rules in
    let low : c.args.to ≤ version = not_below version c.args.to c.in-Ok-Version.version fits is c.requires.known c.if-version-to.true in
    stays_at version c.args.to old mid s low readable (c.found.ensures.kept was) store same.0.is_open

pub returns-then-version-to-clause-not_newer : goal.returns-then-version-to-clause-not_newer
returns-then-version-to-clause-not_newer g c was n v =
    let old = state g.S.Store c.args.conn.now in
    let reported : IsVersion old.now c.in-Ok-Version.version = (c.in-Ok-Version.ensures.version was _).0 c.in-Ok-Version.field-0-is in
    let known : c.in-Ok-Version.version ≤ℤ pos newest_schema = search rules in
    subst (λ k. k ≤ℤ pos newest_schema) (one_version old.now c.in-Ok-Version.version n reported v) known

pub returns-in-Ok-clause-after_failure : goal.returns-in-Ok-clause-after_failure
returns-in-Ok-clause-after_failure g c clean version s readable =
    not_migrated version c.args.to _ _ s readable.at (c.found.ensures.kept clean) (is_store g c.found.new.conn) clean c.found.ensures.crash

pub returns-in-Err-clause-after_failure : goal.returns-in-Err-clause-after_failure
returns-in-Err-clause-after_failure g c clean version s readable =
    not_migrated version c.args.to _ _ s readable.at (c.found.ensures.kept clean) (is_store g c.found.new.conn) clean c.found.ensures.crash

pub returns-then-version-lt1-clause-after_failure : goal.returns-then-version-lt1-clause-after_failure
returns-then-version-lt1-clause-after_failure g c clean version s readable =
    not_migrated version c.args.to _ _ s readable.at (c.found.ensures.kept clean) (is_store g c.found.new.conn) clean c.found.ensures.crash

pub returns-in-Ok-migrate_from-clause-migrated : goal.returns-in-Ok-migrate_from-clause-migrated
returns-in-Ok-migrate_from-clause-migrated g c clean version s readable =
    let old = state g.S.Store c.args.conn.now in
    let mid = state g.S.Store c.found.new.conn in
    let store = is_store g c.found.new.conn in
    let new = state g.S.Store c.migrate_from.new.conn in
    let was : HasCleanDisk mid = c.migrate_from.ensures.clean clean in
    let same : IsUnchanged old mid = c.in-Ok-Version.ensures.same was _ c.in-Ok-Version.field-0-is in
    let reported : IsVersion old.now c.in-Ok-Version.version = (c.in-Ok-Version.ensures.version was _).0 c.in-Ok-Version.field-0-is in
    let is : c.in-Ok-Version.version ≡ pos version = version_is version old.now (tables_of version s) c.in-Ok-Version.version readable.at.holds reported in
    let fits : SFits w64 c.in-Ok-Version.version = search rules in
    let under : version < c.args.to = below version c.args.to c.in-Ok-Version.version fits is c.requires.known c.if-version-to.false in
    rises_to version _ c.args.to old mid new s (handed_on version c.in-Ok-Version.version fits is) under readable (c.found.ensures.kept was) store same.0.is_open (c.in-Ok-migrate_from.ensures.migrated clean)

pub returns-in-Err-migrate_from-clause-after_failure : goal.returns-in-Err-migrate_from-clause-after_failure
returns-in-Err-migrate_from-clause-after_failure g c clean version s readable =
    let old = state g.S.Store c.args.conn.now in
    let mid = state g.S.Store c.found.new.conn in
    let store = is_store g c.found.new.conn in
    let new = state g.S.Store c.migrate_from.new.conn in
    let was : HasCleanDisk mid = c.migrate_from.ensures.clean clean in
    let same : IsUnchanged old mid = c.in-Ok-Version.ensures.same was _ c.in-Ok-Version.field-0-is in
    let reported : IsVersion old.now c.in-Ok-Version.version = (c.in-Ok-Version.ensures.version was _).0 c.in-Ok-Version.field-0-is in
    let is : c.in-Ok-Version.version ≡ pos version = version_is version old.now (tables_of version s) c.in-Ok-Version.version readable.at.holds reported in
    let fits : SFits w64 c.in-Ok-Version.version = search rules in
    cut_from version _ c.args.to old mid new s (handed_on version c.in-Ok-Version.version fits is) readable (c.found.ensures.kept was) store same.0.is_open (c.in-Err-migrate_from.ensures.after_failure clean)

-- what a stop leaves of the migration
migrated_so : (g : Over) (c : After-migrate_from g) → Survives (state g.S.Store c.args.conn.now) (state g.S.Store c.migrate_from.new.conn) (IsMigratedTo c.args.to (state g.S.Store c.args.conn.now))
migrated_so g c =
    let old = state g.S.Store c.args.conn.now in
    let mid = state g.S.Store c.found.new.conn in
    let store = is_store g c.found.new.conn in
    let new = state g.S.Store c.migrate_from.new.conn in
    survives_then old mid new _ _ _ (λ _ db none. absurd none)
    (λ clean trees made.
    let was : HasCleanDisk mid = c.migrate_from.ensures.clean clean in
    let same : IsUnchanged old mid = c.in-Ok-Version.ensures.same was _ c.in-Ok-Version.field-0-is in
    let reported : IsVersion old.now c.in-Ok-Version.version = (c.in-Ok-Version.ensures.version was _).0 c.in-Ok-Version.field-0-is in
    let fits : SFits w64 c.in-Ok-Version.version = search rules in
    migrated_reported c.args.to old mid trees c.in-Ok-Version.version fits reported c.requires.known c.if-version-to.false same.0.now_is (λ settled. settled_still old mid settled (c.found.ensures.kept was) store same.0.is_open) made) c.found.ensures.crash c.migrate_from.ensures.crash

pub returns-in-Ok-migrate_from-clause-crash : goal.returns-in-Ok-migrate_from-clause-crash
returns-in-Ok-migrate_from-clause-crash g c = migrated_so g (goal.at.returns-in-Ok-migrate_from-clause-crash g c).After-migrate_from

pub returns-in-Err-migrate_from-clause-crash : goal.returns-in-Err-migrate_from-clause-crash
returns-in-Err-migrate_from-clause-crash g c = migrated_so g (goal.at.returns-in-Err-migrate_from-clause-crash g c).After-migrate_from

pub returns-in-Ok-migrate_from-clause-not_newer : goal.returns-in-Ok-migrate_from-clause-not_newer
returns-in-Ok-migrate_from-clause-not_newer g c clean n v =
    let old = state g.S.Store c.args.conn.now in
    let was : HasCleanDisk (state g.S.Store c.found.new.conn) = c.migrate_from.ensures.clean clean in
    let reported : IsVersion old.now c.in-Ok-Version.version = (c.in-Ok-Version.ensures.version was _).0 c.in-Ok-Version.field-0-is in
    let known : c.in-Ok-Version.version ≤ℤ pos newest_schema = search rules in
    subst (λ k. k ≤ℤ pos newest_schema) (one_version old.now c.in-Ok-Version.version n reported v) known

pub returns-then-version-clause-crash : goal.returns-then-version-clause-crash
returns-then-version-clause-crash g c = survives_weaker _ _ _ _ (λ clean db none. absurd none) c.found.ensures.crash

pub returns-then-version-to-clause-crash : goal.returns-then-version-to-clause-crash
returns-then-version-to-clause-crash g c = survives_weaker _ _ _ _ (λ clean db none. absurd none) c.found.ensures.crash

pub returns-in-Err-migrate_from-clause-write_error : goal.returns-in-Err-migrate_from-clause-write_error
returns-in-Err-migrate_from-clause-write_error g c other =
    survives_then _ _ _ _ _ _ (λ _ db none. none) (λ _ db none. none) c.found.ensures.crash (c.in-Err-migrate_from.ensures.write_error (memory_alone c.in-Err-migrate_from.fault c.fault_of-in-Err-migrate_from.ensures other))

pub returns-in-Ok-clause-crash : goal.returns-in-Ok-clause-crash
returns-in-Ok-clause-crash g c = survives_weaker _ _ _ _ (λ clean db none. absurd none) c.found.ensures.crash

pub returns-then-version-to-clause-reported : goal.returns-then-version-to-clause-reported
returns-then-version-to-clause-reported g c was =
    let old = state g.S.Store c.args.conn.now in
    let reported : IsVersion old.now c.in-Ok-Version.version = (c.in-Ok-Version.ensures.version was _).0 c.in-Ok-Version.field-0-is in
    has_known_version old.now c.in-Ok-Version.version reported (search rules)

pub returns-in-Ok-migrate_from-clause-reported : goal.returns-in-Ok-migrate_from-clause-reported
returns-in-Ok-migrate_from-clause-reported g c clean =
    let old = state g.S.Store c.args.conn.now in
    let was : HasCleanDisk (state g.S.Store c.found.new.conn) = c.migrate_from.ensures.clean clean in
    let reported : IsVersion old.now c.in-Ok-Version.version = (c.in-Ok-Version.ensures.version was _).0 c.in-Ok-Version.field-0-is in
    has_known_version old.now c.in-Ok-Version.version reported (search rules)
