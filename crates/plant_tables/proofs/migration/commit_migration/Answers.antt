use Rattle.std.proofs.lemmas.Result.{on_ok_weaker}
use Rattle.sqlite.specs.Held.{state}
use Rattle.plant_tables.proofs.SchemaMigrates.{migrated_at, unmigrated_at}
use Rattle.plant_tables.proofs.migration.commit_migration.Goals as goal

pub returns-clause-migrated : goal.returns-clause-migrated
returns-clause-migrated g c clean settled t can =
    migrated_at c.args.version c.args.position c.args.added.now c.requires.older (state g.S.Store c.args.conn.now) (state g.S.Store c.in_one.new.conn) t settled can c.in_one.result (c.in_one.ensures.done clean settled)

pub returns-clause-after_failure : goal.returns-clause-after_failure
returns-clause-after_failure g c clean settled t can =
    unmigrated_at c.args.version c.args.position c.args.added.now c.requires.older (state g.S.Store c.args.conn.now) (state g.S.Store c.in_one.new.conn) t settled can c.in_one.result (c.in_one.ensures.undone clean settled)

pub returns-clause-no_crash_state_added : goal.returns-clause-no_crash_state_added
returns-clause-no_crash_state_added g c clean settled t can =
    on_ok_weaker c.in_one.result (λ done. (done.1 c.requires.older t can).2) (c.in_one.ensures.done clean settled)
