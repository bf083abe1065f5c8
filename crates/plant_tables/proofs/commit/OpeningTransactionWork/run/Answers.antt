use Rattle.std.proofs.Common.{arith}
use Rattle.std.proofs.lemmas.Result.{on_ok_weaker}
use Rattle.sqlite.specs.Held.{state}
use Rattle.sqlite.specs.State.{HasCleanDisk}
use Rattle.sql_tables.proofs.StatementSequence.{kept_then}
use Rattle.plant_base.specs.{newest_schema}
use Rattle.plant_tables.proofs.OpeningTables.{desk_made}
use Rattle.plant_tables.proofs.commit.OpeningTransactionWork.run.Goals as goal

pub returns-clause-made : goal.returns-clause-made
returns-clause-made g c clean =
    let first = state g.S.Store c.args.tx.now.conn.now in
    let mid = state g.S.Store c.create.new.tx.conn.now in
    let last = state g.S.Store c.write_change.new.tx.conn.now in
    let was : HasCleanDisk mid = omega (arith, c.write_change.ensures.survives.clean) in
    let moved = rw c.zero.ensures at (c.write_change.ensures.moved clean newest_schema tt) in
    on_ok_weaker c.write_change.result (desk_made first mid last (c.in_ok-create.ensures.founded was)) moved

pub returns-clause-kept : goal.returns-clause-kept
returns-clause-kept g c clean =
    let first = state g.S.Store c.args.tx.now.conn.now in
    let mid = state g.S.Store c.create.new.tx.conn.now in
    let last = state g.S.Store c.write_change.new.tx.conn.now in
    kept_then first mid last (c.create.ensures.kept (omega (arith, c.write_change.ensures.survives.clean))) (c.write_change.ensures.kept clean)

pub returns-clause-inside : goal.returns-clause-inside
returns-clause-inside g c clean live inside =
    let was : HasCleanDisk (state g.S.Store c.create.new.tx.conn.now) = omega (arith, c.write_change.ensures.survives.clean) in
    let founded = (c.in_ok-create.ensures.founded was).shown live inside in
    on_ok_weaker c.write_change.result (λ moves. (moves.shown founded.is_open founded.mode).mode) (c.write_change.ensures.moved clean newest_schema tt)
