use Rattle.sqlite.specs.Held.{state}
use Rattle.plant_tables.proofs.WritingEnds.{done_at, undone_at}
use Rattle.plant_tables.proofs.commit.commit_changes.Goals as goal

pub returns-clause-accepted : goal.returns-clause-accepted
returns-clause-accepted g c clean t at keyed fresh =
    done_at c.args.changes.now (state g.S.Store c.args.conn.now) (state g.S.Store c.in_one.new.conn) t c.in_one.result at keyed fresh (c.in_one.ensures.done clean at.settled)

pub returns-clause-after_failure : goal.returns-clause-after_failure
returns-clause-after_failure g c clean t at keyed fresh =
    undone_at c.args.changes.now (state g.S.Store c.args.conn.now) (state g.S.Store c.in_one.new.conn) t c.in_one.result at keyed fresh (c.in_one.ensures.undone clean at.settled)
