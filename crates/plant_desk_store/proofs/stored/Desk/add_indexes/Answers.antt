use Rattle.sqlite.specs.Held.{state}
use Rattle.plant_desk_store.proofs.MissingIndexesAreCreated.{indexed}
use Rattle.plant_desk_store.proofs.stored.Desk.add_indexes.Goals as goal

pub returns-clause-indexed : goal.returns-clause-indexed
returns-clause-indexed g c is_live = indexed (state g.S.Store c.args.self.now.connection) (state g.S.Store c.index_on.new.connection) c.index_on.result c.index_on.ensures
