use Rattle.std.proofs.Common.{arith, refl, []}
use Rattle.std.proofs.lemmas.Result.{on_ok_weaker}
use Rattle.sqlite.specs.Held.{state}
use Rattle.sqlite.specs.State.{HasCleanDisk}
use Rattle.sql_tables.specs.{Founds}
use Rattle.sql_tables.proofs.CreateIndexes.{founds_then}
use Rattle.sql_tables.proofs.StatementSequence.{kept_then}
use Rattle.plant_tables.specs.{table_defs_of, indexes_of}
use Rattle.plant_tables.proofs.StatementsOnDesk.{founded_so}
use Rattle.plant_tables.proofs.write.create.Given.{Over}
use Rattle.plant_tables.proofs.write.create.Goals.{After-create_indexes}
use Rattle.plant_tables.proofs.write.create.Goals as goal

-- the tables were made
founded : (g : Over) (c : After-create_indexes g) → HasCleanDisk (state g.S.Store c.create_indexes.new.tx.conn.now)
    → Founds (table_defs_of c.args.schema) (state g.S.Store c.args.tx.now.conn.now) (state g.S.Store c.create_tables.new.tx.conn.now)
founded g c clean =
    let first = state g.S.Store c.args.tx.now.conn.now in
    let made = state g.S.Store c.create_tables.new.tx.conn.now in
    let was : HasCleanDisk made = omega (arith, c.create_indexes.ensures.survives.clean, clean) in
    founded_so c.args.schema c.tables_in.result c.tables_in.ensures.own _ c.split_at.result.0.now c.split_at.ensures.front refl first made (c.in_ok-create_tables.ensures.made was)

-- and then the indexes
pub returns-clause-founded : goal.returns-clause-founded
returns-clause-founded g c clean =
    on_ok_weaker c.create_indexes.result (founds_then (table_defs_of c.args.schema) (indexes_of c.args.schema) _ _ _ (founded g (goal.at.returns-clause-founded g c).After-create_indexes clean)) (c.create_indexes.ensures.indexed clean)

-- and each index is there
pub returns-clause-indexed : goal.returns-clause-indexed
returns-clause-indexed g c clean sound free =
    let founds = founded g (goal.at.returns-clause-indexed g c).After-create_indexes clean in
    on_ok_weaker c.create_indexes.result (λ added. added.made (λ _. []) (founds.has_rows sound free)) (c.create_indexes.ensures.indexed clean)

pub returns-clause-kept : goal.returns-clause-kept
returns-clause-kept g c clean =
    let first = state g.S.Store c.args.tx.now.conn.now in
    let made = state g.S.Store c.create_tables.new.tx.conn.now in
    let last = state g.S.Store c.create_indexes.new.tx.conn.now in
    kept_then first made last (c.create_tables.ensures.kept (omega (arith, c.create_indexes.ensures.survives.clean))) (c.create_indexes.ensures.kept clean)
