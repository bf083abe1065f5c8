use Rattle.std.proofs.Common.{ap}
use Rattle.sqlite.specs.Held.{state}
use Rattle.sqlite.specs.Values.{bound}
use Rattle.sql_tables.proofs.StatementSequence.{runs_from, kept_from}
use Rattle.sql_tables.proofs.statements.run.Goals as goal

pub returns-clause-runs : goal.returns-clause-runs
returns-clause-runs g c clean =
    runs_from c.args.sql.now (bound c.args.params.now) (state g.S.Store c.args.tx.now.conn.now) (state g.S.Store c.execute.new.self.conn.now) c.execute.result _
    (λ off. (c.execute.ensures.ended off).0) (c.execute.ensures.runs clean)

pub returns-clause-kept : goal.returns-clause-kept
returns-clause-kept g c clean =
    kept_from c.args.sql.now (bound c.args.params.now) (state g.S.Store c.args.tx.now.conn.now) (state g.S.Store c.execute.new.self.conn.now) c.execute.result
    (λ off. ap (state g.S.Store) (c.execute.ensures.ended off).1) (c.execute.ensures.runs clean)
