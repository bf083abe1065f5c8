use Rattle.std.proofs.Common.{rules, ◌≡◌, ◌≤◌, List, sym, subst, length, true, false}
use Rattle.sql_tables.specs.{TableDef}
use Rattle.plant_tables.proofs.SchemaParts.{had_rows, lacked}
use Rattle.plant_tables.proofs.loaded.has_tables.Goals as goal

pub split_at-requires : goal.split_at-requires
split_at-requires c = subst (λ (fs : List TableDef). c.tables_in.result ≤ length fs) (sym c.desk_table_defs-table_defs.ensures) c.tables_in.ensures.few

pub returns-then-are_all_declared : goal.returns-then-are_all_declared
returns-then-are_all_declared c =
    let there : c.are_all_declared.result ≡ true = search rules in
    had_rows c.args.there.now c.args.schema c.tables_in.result c.desk_table_defs-table_defs.result c.split_at.result.0.now c.split_at.result.1.now c.desk_table_defs-table_defs.ensures c.split_at.ensures.front c.split_at.ensures.back
    c.tables_in.ensures.own c.tables_in.ensures.later c.are_all_declared.result c.all_free.result c.are_all_declared.ensures c.all_free.ensures there

pub returns-else-are_all_declared : goal.returns-else-are_all_declared
returns-else-are_all_declared c =
    let lacking : c.are_all_declared.result ≡ false = search rules in
    lacked c.args.there.now c.args.schema c.tables_in.result c.desk_table_defs-table_defs.result c.split_at.result.0.now c.desk_table_defs-table_defs.ensures c.split_at.ensures.front
    c.tables_in.ensures.own c.are_all_declared.result c.are_all_declared.ensures lacking
