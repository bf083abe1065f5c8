use Rattle.std.proofs.Common.{refl}
use Rattle.sqlite.specs.Held.{state}
use Rattle.plant_tables.proofs.StatementsOnDesk.{indexed_so}
use Rattle.plant_tables.proofs.write.create_indexes.Goals as goal

pub returns-clause-indexed : goal.returns-clause-indexed
returns-clause-indexed g c clean =
    indexed_so c.args.schema c.indexes_in.result c.indexes_in.ensures.own _ c.split_at.result.0.now c.split_at.ensures.front refl (state g.S.Store c.args.tx.now.conn.now) (state g.S.Store c.run_create_indexes.new.tx.conn.now) c.run_create_indexes.result (c.run_create_indexes.ensures.made clean)
