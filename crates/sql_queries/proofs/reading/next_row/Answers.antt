use Rattle.std.proofs.Common.{rules, Some}
use Rattle.sqlite.specs.Given.{Advances}
use Rattle.sql_queries.proofs.AllErrors.{if_error}
use Rattle.sql_queries.proofs.reading.next_row.Goals as goal

pub returns-in_err-copied-in-Some-clause-memory : goal.returns-in_err-copied-in-Some-clause-memory
returns-in_err-copied-in-Some-clause-memory g c clean =
    let given : Advances g.S.Store c.args.rows.now.conn.now c.advance.new.self.conn.now (Some c.in-Some.row.now) = search rules in
    if_error c.from_residual.result _ (λ fault memory. (c.in-Some.row.now, given))
