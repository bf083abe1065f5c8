use Rattle.sqlite.specs.Held.{state}
use Rattle.sqlite.specs.Values.{bound}
use Rattle.plant_tables_columns.specs.{receipt_from}
use Rattle.plant_keyed.proofs.DecodedPages.{paged_by}
use Rattle.plant_keyed.proofs.receipts.receipts_page_over.Goals as goal

pub returns-clause-rows : goal.returns-clause-rows
returns-clause-rows g c places next selects bounds clean =
    let page = rw c.from-most.ensures at c.find_page-read.ensures.page in
    paged_by receipt_from (state g.S.Store c.args.conn.now).now c.args.table_def.now c.args.by.now places next (bound c.args.values.now) c.find_page-read.result c.receipts_page_by.result
    (page places next selects bounds clean) c.receipts_page_by.ensures.handed c.receipts_page_by.ensures.rows
