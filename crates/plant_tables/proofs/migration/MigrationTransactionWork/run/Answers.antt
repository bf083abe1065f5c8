use Rattle.std.proofs.Common.{◌≡◌, ◌+◌, arith, rules}
use Rattle.std.proofs.lemmas.Result.{on_ok_weaker}
use Rattle.sqlite.specs.Held.{state}
use Rattle.sqlite.specs.State.{HasCleanDisk}
use Rattle.plant_base.specs.{newest_schema}
use Rattle.plant_tables.proofs.StatementsOnDesk.{all_of_newest}
use Rattle.plant_tables.proofs.SchemaMigrates.{migrated}
use Rattle.plant_tables.proofs.migration.MigrationTransactionWork.run.Goals as goal

pub returns-clause-made : goal.returns-clause-made
returns-clause-made g c clean =
    let first = state g.S.Store c.args.tx.now.conn.now in
    let founded = state g.S.Store c.create_added.new.tx.conn.now in
    let indexed = state g.S.Store c.index_added.new.tx.conn.now in
    let written = state g.S.Store c.write_changes.new.tx.conn.now in
    let last = state g.S.Store c.write_change.new.tx.conn.now in
    let rows : HasCleanDisk written = omega (arith, c.write_change.ensures.survives.clean) in
    let later : HasCleanDisk indexed = omega (arith, rows, c.write_changes.ensures.survives.clean) in
    let was : HasCleanDisk founded = omega (arith, later, c.index_added.ensures.survives.clean) in
    let version = c.args.self.now.version in
    let next : c.in-Some.schema ≡ version + 1 = search rules in
    let founds = rw next at (c.in_ok-create_added.ensures.founded was) in
    let crash_states = rw next at (c.in_ok-create_added.ensures.no_crash_state_added was) in
    let indexes = rw next at (c.in_ok-index_added.ensures.indexed later) in
    let meta = rw next at (c.write_change.ensures.moved clean (version + 1) tt) in
    migrated version c.args.self.now.position c.args.self.now.added.now first founded indexed written last c.write_change.result founds crash_states indexes (c.in_ok-write_changes.ensures.moved rows (version + 1)) meta

pub returns-clause-inside : goal.returns-clause-inside
returns-clause-inside g c clean live inside =
    let rows : HasCleanDisk (state g.S.Store c.write_changes.new.tx.conn.now) = omega (arith, c.write_change.ensures.survives.clean) in
    let later : HasCleanDisk (state g.S.Store c.index_added.new.tx.conn.now) = omega (arith, rows, c.write_changes.ensures.survives.clean) in
    let was : HasCleanDisk (state g.S.Store c.create_added.new.tx.conn.now) = omega (arith, later, c.index_added.ensures.survives.clean) in
    let founded = (c.in_ok-create_added.ensures.founded was).shown live inside in
    let indexed = (c.in_ok-index_added.ensures.indexed later).shown founded.is_open founded.mode in
    let written = (c.in_ok-write_changes.ensures.moved rows newest_schema (all_of_newest c.args.self.now.added.now)).shown indexed.is_open indexed.mode in
    on_ok_weaker c.write_change.result (λ moves. (moves.shown written.is_open written.mode).mode) (c.write_change.ensures.moved clean newest_schema tt)
