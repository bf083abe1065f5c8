use Rattle.std.proofs.Common.{rules, ◌≡◌, true, subst}
use Rattle.std.proofs.lemmas.Result.{IfOk-weaker}
use Rattle.sqlite.specs.Held.{state}
use Rattle.sqlite.specs.Values.{bound}
use Rattle.sql_tables.specs.{HasTable}
use Rattle.sql_queries.proofs.ReadingKeeps.{shown_unchanged}
use Rattle.sql_queries.proofs.SelectText.{only_reads, selected}
use Rattle.sql_queries.proofs.table.find_rows.Goals as goal

pub read_rows-requires-clause-only_reads : goal.read_rows-requires-clause-only_reads
read_rows-requires-clause-only_reads g c =
    let reported : c.is_declared.result ≡ true = search rules in
    let has : HasTable c.args.conn.now.schema c.args.table_def.now = subst (λ schema. HasTable schema c.args.table_def.now) c.schema.ensures.value (c.is_declared.ensures.0 reported) in
    let text = c.requires in
    only_reads c.args.conn.now.schema c.args.table_def.now has.at has.tree has.declared text.0 c.args.sql.now text.1

pub returns-clause-rows : goal.returns-clause-rows
returns-clause-rows g c column_indexes text given clean =
    let old = state g.S.Store c.args.conn.now in
    let new = state g.S.Store c.read_rows.new.conn in
    let reported : c.is_declared.result ≡ true = search rules in
    let has : HasTable c.args.conn.now.schema c.args.table_def.now = subst (λ schema. HasTable schema c.args.table_def.now) c.schema.ensures.value (c.is_declared.ensures.0 reported) in
    IfOk-weaker c.read_rows.result _ _
    (λ list shows.
    let live = c.schema.ensures.live (shown_unchanged c.args.sql.now (bound c.args.values.now) old new _ (only_reads c.args.conn.now.schema c.args.table_def.now has.at has.tree has.declared column_indexes c.args.sql.now text) shows).0.was_open in
    selected old new c.args.table_def.now column_indexes c.args.sql.now text has (bound c.args.values.now) _ shows live.0 given.0 given.1) (c.read_rows.ensures.rows clean)
