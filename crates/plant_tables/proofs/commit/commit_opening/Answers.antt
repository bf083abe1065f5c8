use Rattle.sqlite.specs.Held.{state}
use Rattle.plant_base.specs.{newest_schema}
use Rattle.plant_tables.specs.{opening_tables, MakesDesk}
use Rattle.plant_tables.proofs.WritingEnds.{ended_at}
use Rattle.plant_tables.proofs.OpeningTables.{unopened_at}
use Rattle.plant_tables.proofs.commit.commit_opening.Goals as goal

pub returns-clause-made : goal.returns-clause-made
returns-clause-made g c clean settled sound free =
    ended_at newest_schema MakesDesk (state g.S.Store c.args.conn.now) (state g.S.Store c.in_one.new.conn) opening_tables (λ db made. made sound free) c.in_one.result (c.in_one.ensures.done clean settled)

pub returns-clause-after_failure : goal.returns-clause-after_failure
returns-clause-after_failure g c clean settled sound free =
    unopened_at (state g.S.Store c.args.conn.now) (state g.S.Store c.in_one.new.conn) c.in_one.result sound free (c.in_one.ensures.undone clean settled)
