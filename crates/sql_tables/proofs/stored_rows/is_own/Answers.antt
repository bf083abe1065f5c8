use Rattle.std.proofs.Common.{◌≡◌, ◌≤◌, refl, sym, ap, subst, ◌∙◌, arith, length}
use Rattle.sqlite.specs.Table.{Table}
use Rattle.sqlite_rules.specs.Lists.{Has}
use Rattle.sql_tables.specs.{table_of}
use Rattle.sql_tables.proofs.ListsAgree.{each_has, has_at}
use Rattle.sql_tables.proofs.stored_rows.is_own.Goals as goal

pub returns-then-not-is_table : goal.returns-then-not-is_table
returns-then-not-is_table c = (
  λ no'. absurd cc,
  λ own. absurd (
      let there : Has c.args.schema.now.tables c.table-item.result =
      subst (λ ts. Has ts c.table-item.result) c.as_slice-table-items.ensures
      (subst (Has c.as_slice-table-items.result.now) (sym c.table-item.is) (has_at c.as_slice-table-items.result.now c.loop-table.table-index c.table-item.result c.loop-table-test.true)) in
      let is = own c.table-item.result there c.if-table-tree.true in
      let hit = c.is_table.ensures.1 (is ∙ ap (table_of c.args.table_def.now) (sym c.if-table-tree.true)) in
      let miss = c.if-not-is_table.true in
      cc),
)

pub returns : goal.returns
returns c =
    let long : length c.args.schema.now.tables ≤ c.loop-table.table-index = subst (λ ts. length ts ≤ c.loop-table.table-index) c.as_slice-table-items.ensures (omega (arith, c.loop-table-test.false)) in
    (λ _. each_has (λ (t : Table). t.tree ≡ c.args.tree → t ≡ table_of c.args.table_def.now c.args.tree) c.args.schema.now.tables (λ k d low. c.loop-table.invariant k d (omega (arith, long))), λ _. refl)
