use Rattle.std.proofs.Common.{◌≡◌, ◌+◌, subst, true, OnOk, OnErr, rules}
use Rattle.sqlite.specs.Effect.{Database}
use Rattle.sqlite.specs.Held.{state}
use Rattle.sqlite.specs.State.{Survives}
use Rattle.sqlite.proofs.StateLemmas.{survives_weaker}
use Rattle.sql_tables.proofs.TransactionEnds.{IsStore}
use Rattle.sql_tables.proofs.StatementSequence.{survives_none}
use Rattle.sql_tables.specs.{AreFree, KeepsOtherTables}
use Rattle.plant_tables.specs.{desk_table_defs, later_table_defs, IsAtOf, FailureLeavesOf, MigratesTables}
use Rattle.plant_migrate.specs.{migrated_once}
use Rattle.plant_migrate.proofs.NothingWritten.{keeps_itself, not_begun}
use Rattle.plant_migrate.proofs.MigratedBySteps.{once_led}
use Rattle.plant_migrate.proofs.steps.migrate_one.Goals as goal

pub returns-clause-migrated : goal.returns-clause-migrated
returns-clause-migrated g c clean settled t can =
    let old = state g.S.Store c.args.conn.now in
    let new = state g.S.Store c.commit_migration.new.conn in
    let reported : c.can_migrate.result ≡ true = search rules in
    let free : AreFree (later_table_defs c.args.version) old.now.schema = subst (AreFree (later_table_defs c.args.version)) c.schema.ensures.value (c.can_migrate.ensures.0 reported) in
    once_led (λ u. OnOk c.commit_migration.result (IsAtOf (c.args.version + 1) new u × KeepsOtherTables desk_table_defs old.now new.now)) c.args.version c.args.position.now c.args.edges.now c.added_rows.result.now old.now t c.added_rows.ensures c.requires.edges free can
    (c.commit_migration.ensures.migrated clean settled t)

pub returns-clause-after_failure : goal.returns-clause-after_failure
returns-clause-after_failure g c clean settled t can =
    let old = state g.S.Store c.args.conn.now in
    let new = state g.S.Store c.commit_migration.new.conn in
    let reported : c.can_migrate.result ≡ true = search rules in
    let free : AreFree (later_table_defs c.args.version) old.now.schema = subst (AreFree (later_table_defs c.args.version)) c.schema.ensures.value (c.can_migrate.ensures.0 reported) in
    once_led (λ u. OnErr c.commit_migration.result (FailureLeavesOf c.args.version (c.args.version + 1) old new t u)) c.args.version c.args.position.now c.args.edges.now c.added_rows.result.now old.now t c.added_rows.ensures c.requires.edges free can
    (c.commit_migration.ensures.after_failure clean settled t)

pub returns-clause-survives : goal.returns-clause-survives
returns-clause-survives g c =
    let old = state g.S.Store c.args.conn.now in
    let new = state g.S.Store c.commit_migration.new.conn in
    let reported : c.can_migrate.result ≡ true = search rules in
    let free : AreFree (later_table_defs c.args.version) old.now.schema = subst (AreFree (later_table_defs c.args.version)) c.schema.ensures.value (c.can_migrate.ensures.0 reported) in
    let made = subst (λ cs. Survives old new (λ trees. (db : Database) × MigratesTables c.args.version c.args.position.now cs old.now db × (trees ≡ db.trees))) c.added_rows.ensures c.commit_migration.ensures.survives in
    survives_weaker _ _ _ _ (λ clean trees migrated. record { free = free; new = migrated.0; migrates = migrated.1; same = migrated.2 }) made

pub returns-then-not-can_migrate-clause-after_failure : goal.returns-then-not-can_migrate-clause-after_failure
returns-then-not-can_migrate-clause-after_failure g c clean settled t can =
    let held = c.args.conn.now in
    let old = state g.S.Store held in
    let store : IsStore old = record { settled = g.met.S.Store.settled held.store; stays = g.met.S.Store.stays held.store; something = g.met.S.Store.survives held.store } in
    not_begun c.args.version old old t (record { settled = settled; holds = can.holds }) (keeps_itself old) store (c.args.version + 1) (migrated_once c.args.version c.args.position.now c.args.edges.now t) clean (survives_none old)

pub returns-then-not-can_migrate-clause-survives : goal.returns-then-not-can_migrate-clause-survives
returns-then-not-can_migrate-clause-survives g c = survives_weaker _ _ _ _ (λ clean db none. absurd none) (survives_none (state g.S.Store c.args.conn.now))
