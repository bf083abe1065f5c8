use Rattle.sqlite.specs.Held.{state}
use Rattle.sqlite.specs.Values.{bound}
use Rattle.sql_tables.proofs.StatementSequence.{takes_from}
use Rattle.sql_tables.proofs.statements.delete_rows.Goals as goal

pub returns-in-Ok-clause-taken : goal.returns-in-Ok-clause-taken
returns-in-Ok-clause-taken g c clean =
    takes_from c.args.sql.now (bound c.args.values.now) (state g.S.Store c.args.tx.now.conn.now) (state g.S.Store c.run.new.tx.conn.now) c.in-Ok.field-0 (c.in-Ok.ensures.runs clean)
