use Rattle.std.proofs.lemmas.Result.{IfOk-weaker}
use Rattle.sql_queries.proofs.StoreLaws.{memory_opened}
use Rattle.sql_queries.proofs.opening.open_in_memory.Goals as goal

pub returns-clause-newly : goal.returns-clause-newly
returns-clause-newly c = IfOk-weaker c.open_in_memory.result _ _ memory_opened c.open_in_memory.ensures.empty
