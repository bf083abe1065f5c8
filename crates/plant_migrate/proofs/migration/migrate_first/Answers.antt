use Rattle.std.proofs.Common.{◌≡◌, Some, sym, subst, arith}
use Rattle.std.proofs.lemmas.Result.{IfErr-weaker}
use Rattle.sqlite.specs.Held.{Held, state}
use Rattle.sqlite.specs.State.{HasCleanDisk, IsUnchanged, Survives}
use Rattle.sqlite.proofs.StateLemmas.{survives_then, survives_weaker}
use Rattle.plant_view.specs.{tables_of}
use Rattle.sql_tables.proofs.TransactionEnds.{IsStore}
use Rattle.plant_tables.specs.{IsAtOf}
use Rattle.plant_tables.specs.{rows_from, rows_in, rows_listed, AreLoaded}
use Rattle.plant_migrate.proofs.NothingWritten.{at_still, settled_still, not_migrated}
use Rattle.plant_migrate.proofs.RowsBeforeMigration.{rows_read, ends_since, cut_since, first_migrated}
use Rattle.plant_migrate.proofs.migration.migrate_first.Given.{Over}
use Rattle.plant_migrate.proofs.migration.migrate_first.Goals as goal

-- the store of a connection obeys the laws of stores
is_store : (g : Over) (held : Held _) → IsStore (state g.S.Store held)
is_store g held = record { settled = g.met.S.Store.settled held.store; stays = g.met.S.Store.stays held.store; something = g.met.S.Store.survives held.store }

pub returns-in-Ok-None-clause-after_failure : goal.returns-in-Ok-None-clause-after_failure
returns-in-Ok-None-clause-after_failure g c clean s readable =
    not_migrated 1 c.args.to _ _ s readable.at (c.read.ensures.kept clean) (is_store g c.read.new.conn) clean c.read.ensures.crash

pub returns-in-Ok-None-rows_of-clause-after_failure : goal.returns-in-Ok-None-rows_of-clause-after_failure
returns-in-Ok-None-rows_of-clause-after_failure g c clean s readable =
    not_migrated 1 c.args.to _ _ s readable.at (c.read.ensures.kept clean) (is_store g c.read.new.conn) clean c.read.ensures.crash

pub returns-in-Err-clause-after_failure : goal.returns-in-Err-clause-after_failure
returns-in-Err-clause-after_failure g c clean s readable =
    not_migrated 1 c.args.to _ _ s readable.at (c.read.ensures.kept clean) (is_store g c.read.new.conn) clean c.read.ensures.crash

pub returns-clause-after_failure : goal.returns-clause-after_failure
returns-clause-after_failure g c clean s readable =
    not_migrated 1 c.args.to _ _ s readable.at (c.read.ensures.kept clean) (is_store g c.read.new.conn) clean c.read.ensures.crash

pub returns-in-Ok-Some-rows_of-clause-migrated : goal.returns-in-Ok-Some-rows_of-clause-migrated
returns-in-Ok-Some-rows_of-clause-migrated g c clean s readable =
    let old = state g.S.Store c.args.conn.now in
    let mid = state g.S.Store c.read.new.conn in
    let new = state g.S.Store c.migrate_rows.new.conn in
    let was : HasCleanDisk mid = omega (arith, clean, c.migrate_rows.ensures.survives.clean) in
    let store = is_store g c.read.new.conn in
    let same : IsUnchanged old mid = rw c.in-Ok-Some.field-0-is at (c.in-Ok-Some.ensures.same was) in
    let loaded : AreLoaded 1 old.now c.in-Ok-Some.loaded = rw c.in-Ok-Some.field-0-is at (c.in-Ok-Some.ensures.rows was) in
    let reported : Some (rows_listed c.in-Ok-Some-rows_of.rows) ≡ rows_from c.in-Ok-Some.loaded = rw c.in-Ok-Some-rows_of.field-0-is at c.in-Ok-Some-rows_of.ensures in
    let are : rows_listed c.in-Ok-Some-rows_of.rows ≡ rows_in (tables_of 1 s) = rows_read 1 old s c.in-Ok-Some.loaded c.in-Ok-Some-rows_of.rows readable loaded reported in
    let at : IsAtOf 1 mid (tables_of 1 s) = at_still 1 old mid (tables_of 1 s) readable.at (c.read.ensures.kept was) store same.0.is_open in
    ends_since c.args.to old mid new s c.migrate_rows.result same.0.now_is (c.migrate_rows.ensures.migrated clean s at readable.ordered.keyed readable.whole are)

pub returns-in-Ok-Some-rows_of-clause-after_failure : goal.returns-in-Ok-Some-rows_of-clause-after_failure
returns-in-Ok-Some-rows_of-clause-after_failure g c clean s readable =
    let old = state g.S.Store c.args.conn.now in
    let mid = state g.S.Store c.read.new.conn in
    let new = state g.S.Store c.migrate_rows.new.conn in
    let was : HasCleanDisk mid = omega (arith, clean, c.migrate_rows.ensures.survives.clean) in
    let store = is_store g c.read.new.conn in
    let same : IsUnchanged old mid = rw c.in-Ok-Some.field-0-is at (c.in-Ok-Some.ensures.same was) in
    let loaded : AreLoaded 1 old.now c.in-Ok-Some.loaded = rw c.in-Ok-Some.field-0-is at (c.in-Ok-Some.ensures.rows was) in
    let reported : Some (rows_listed c.in-Ok-Some-rows_of.rows) ≡ rows_from c.in-Ok-Some.loaded = rw c.in-Ok-Some-rows_of.field-0-is at c.in-Ok-Some-rows_of.ensures in
    let are : rows_listed c.in-Ok-Some-rows_of.rows ≡ rows_in (tables_of 1 s) = rows_read 1 old s c.in-Ok-Some.loaded c.in-Ok-Some-rows_of.rows readable loaded reported in
    let at : IsAtOf 1 mid (tables_of 1 s) = at_still 1 old mid (tables_of 1 s) readable.at (c.read.ensures.kept was) store same.0.is_open in
    cut_since 1 c.args.to old mid new s c.migrate_rows.result same.0.now_is (c.migrate_rows.ensures.after_failure clean s at readable.ordered.keyed readable.whole are)

pub returns-in-Ok-Some-rows_of-clause-write_error : goal.returns-in-Ok-Some-rows_of-clause-write_error
returns-in-Ok-Some-rows_of-clause-write_error g c =
    let old = state g.S.Store c.args.conn.now in
    IfErr-weaker c.migrate_rows.result _ _ (λ fault same memory. subst (λ held. Survives old (state g.S.Store held) (λ _. ⊥)) (sym (same memory)) c.read.ensures.crash) c.migrate_rows.ensures.write_error

pub returns-in-Ok-Some-rows_of-clause-crash : goal.returns-in-Ok-Some-rows_of-clause-crash
returns-in-Ok-Some-rows_of-clause-crash g c =
    let old = state g.S.Store c.args.conn.now in
    let mid = state g.S.Store c.read.new.conn in
    let new = state g.S.Store c.migrate_rows.new.conn in
    let store = is_store g c.read.new.conn in
    survives_then old mid new _ _ _ (λ _ db none. absurd none)
    (λ clean trees made.
    let was : HasCleanDisk mid = omega (arith, clean, c.migrate_rows.ensures.survives.clean) in
    let same : IsUnchanged old mid = rw c.in-Ok-Some.field-0-is at (c.in-Ok-Some.ensures.same was) in
    let loaded : AreLoaded 1 old.now c.in-Ok-Some.loaded = rw c.in-Ok-Some.field-0-is at (c.in-Ok-Some.ensures.rows was) in
    let reported : Some (rows_listed c.in-Ok-Some-rows_of.rows) ≡ rows_from c.in-Ok-Some.loaded = rw c.in-Ok-Some-rows_of.field-0-is at c.in-Ok-Some-rows_of.ensures in
    first_migrated c.args.to old mid trees c.in-Ok-Some.loaded c.in-Ok-Some-rows_of.rows same.0.now_is (λ settled. settled_still old mid settled (c.read.ensures.kept was) store same.0.is_open) loaded reported made) c.read.ensures.crash c.migrate_rows.ensures.survives

pub returns-in-Ok-None-clause-crash : goal.returns-in-Ok-None-clause-crash
returns-in-Ok-None-clause-crash g c = survives_weaker _ _ _ _ (λ clean db none. absurd none) c.read.ensures.crash

pub returns-in-Ok-None-rows_of-clause-crash : goal.returns-in-Ok-None-rows_of-clause-crash
returns-in-Ok-None-rows_of-clause-crash g c = survives_weaker _ _ _ _ (λ clean db none. absurd none) c.read.ensures.crash

pub returns-clause-crash : goal.returns-clause-crash
returns-clause-crash g c = survives_weaker _ _ _ _ (λ clean db none. absurd none) c.read.ensures.crash
