use Rattle.std.proofs.Common.{rules, ◌≡◌, true, subst, length}
use Rattle.sqlite.specs.Held.{state}
use Rattle.sqlite.specs.Values.{bound}
use Rattle.sql_tables.specs.{HasTable}
use Rattle.sql_queries.proofs.ReadingKeeps.{shown_unchanged}
use Rattle.sql_queries.proofs.PageText.{page_reads, page_shown}
use Rattle.sql_queries.proofs.page.find_page.Goals as goal

pub read_rows-requires-clause-only_reads : goal.read_rows-requires-clause-only_reads
read_rows-requires-clause-only_reads g c =
    let reported : c.is_declared.result ≡ true = search rules in
    let has : HasTable c.args.conn.now.schema c.args.table_def.now = subst (λ schema. HasTable schema c.args.table_def.now) c.schema.ensures.value (c.is_declared.ensures.0 reported) in
    let text = c.requires in
    page_reads c.args.conn.now.schema c.args.table_def.now has.at has.tree has.declared c.args.by.now text.0 text.1 c.args.sql.now text.2

pub returns-clause-page : goal.returns-clause-page
returns-clause-page g c column_indexes next text bounds clean =
    let old = state g.S.Store c.args.conn.now in
    let new = state g.S.Store c.read_rows.new.conn in
    let reported : c.is_declared.result ≡ true = search rules in
    let has : HasTable c.args.conn.now.schema c.args.table_def.now = subst (λ schema. HasTable schema c.args.table_def.now) c.schema.ensures.value (c.is_declared.ensures.0 reported) in
    let shows = c.in_ok-rows.ensures.rows clean in
    let reads = page_reads c.args.conn.now.schema c.args.table_def.now has.at has.tree has.declared c.args.by.now column_indexes next c.args.sql.now text in
    let live = c.schema.ensures.live (shown_unchanged c.args.sql.now (bound c.args.values.now) old new _ reads shows).0.was_open in
    let page = page_shown old new c.args.table_def.now c.args.by.now column_indexes next c.args.sql.now text has (bound c.args.values.now) _ shows c.args.most live.0 bounds in
    let long : c.len.result ≡ length c.in_ok-rows.rows.items = search rules in
    rw (c.truncate.ensures.items, long) page
