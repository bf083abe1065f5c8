use Rattle.std.proofs.Common.{map}
use Rattle.sqlite.specs.Held.{state}
use Rattle.plant_tables.proofs.StatementsOnDesk.{sql_of}
use Rattle.plant_tables.proofs.MissingIndexes.{gained}
use Rattle.plant_tables.proofs.indexing.IndexingTransactionWork.run.Goals as goal

pub returns-clause-made : goal.returns-clause-made
returns-clause-made g c clean =
    gained (map sql_of c.args.self.now.texts.now) (state g.S.Store c.args.tx.now.conn.now) (state g.S.Store c.run_create_indexes.new.tx.conn.now) c.run_create_indexes.result (c.run_create_indexes.ensures.made clean)
