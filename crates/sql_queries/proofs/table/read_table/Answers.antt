use Rattle.std.proofs.Common.{refl, []}
use Rattle.std.proofs.lemmas.Result.{IfOk-weaker}
use Rattle.sqlite.specs.Held.{state}
use Rattle.sql_queries.proofs.SelectText.{all_listed}
use Rattle.sql_queries.proofs.table.read_table.Goals as goal

pub find_rows-requires : goal.find_rows-requires
find_rows-requires g c = ([], c.requires)

pub returns-clause-rows : goal.returns-clause-rows
returns-clause-rows g c clean =
    IfOk-weaker c.find_rows.result _ _ (λ list. all_listed (state g.S.Store c.args.conn.now).now c.args.table_def.now _) (c.find_rows.ensures.rows [] c.requires (refl, refl) clean)
