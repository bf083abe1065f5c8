use Rattle.std.proofs.Common.{[]}
use Rattle.sqlite.specs.Held.{state}
use Rattle.sqlite.specs.Values.{bound}
use Rattle.plant_keyed.proofs.DecodedPages.{above_by}
use Rattle.plant_keyed.proofs.stocked.rows_above.Goals as goal

pub find_page-read-requires : goal.find_page-read-requires
find_page-read-requires g c = ([], c.requires.0, c.requires.1)

pub returns-clause-rows : goal.returns-clause-rows
returns-clause-rows g c next selects bounds clean =
    above_by (λ v. v.items) g.R.Decoded.row_from (state g.S.Store c.args.conn.now).now c.args.table_def.now c.args.by.now next (bound c.args.values.now) c.find_page-read.result c.whole_by.result
    (c.find_page-read.ensures.page [] next selects bounds clean) c.whole_by.ensures.handed c.whole_by.ensures.rows
