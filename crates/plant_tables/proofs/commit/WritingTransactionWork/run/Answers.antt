use Rattle.std.proofs.lemmas.Result.{on_ok_weaker}
use Rattle.plant_base.specs.{newest_schema}
use Rattle.plant_tables.proofs.StatementsOnDesk.{all_of_newest}
use Rattle.plant_tables.proofs.commit.WritingTransactionWork.run.Goals as goal

pub returns-clause-made : goal.returns-clause-made
returns-clause-made g c clean = c.write_changes.ensures.tables clean newest_schema (all_of_newest c.args.self.now.changes.now)

pub returns-clause-inside : goal.returns-clause-inside
returns-clause-inside g c clean live inside =
    on_ok_weaker c.write_changes.result (λ moves. (moves.shown live inside).mode) (c.write_changes.ensures.moved clean newest_schema (all_of_newest c.args.self.now.changes.now))
