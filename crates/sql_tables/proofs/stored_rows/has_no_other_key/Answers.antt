use Rattle.std.proofs.Common.{◌≡◌, ◌≤◌, refl, sym, subst, arith, true, length, eq-eqb}
use Rattle.std.proofs.lemmas.Bool.{and_from}
use Rattle.sqlite_schema.specs.declared.schema.Index.{Index}
use Rattle.sqlite_schema.specs.Rules.{guards}
use Rattle.sqlite_rules.specs.Lists.{Has}
use Rattle.sqlite_value.specs.Keys.{plain}
use Rattle.sql_tables.specs.{TableDef, table_of}
use Rattle.sql_tables.proofs.ListsAgree.{each_has, has_at}
use Rattle.sql_tables.proofs.stored_rows.has_no_other_key.Goals as goal

pub returns-then-not-is_of_a_key : goal.returns-then-not-is_of_a_key
returns-then-not-is_of_a_key c = (
  λ no'. absurd cc,
  λ keyed. absurd (
      let there : Has c.args.schema.now.indexes c.index-item.result =
      subst (λ is. Has is c.index-item.result) c.as_slice-index-items.ensures
      (subst (Has c.as_slice-index-items.result.now) (sym c.index-item.is) (has_at c.as_slice-index-items.result.now c.loop-index.index-index c.index-item.result c.loop-index-test.true)) in
      let guarding : guards c.index-item.result (table_of c.args.table_def.now c.args.tree) ≡ true = and_from _ _ c.if-index.true (eq-eqb _ _ c.if-index-tree.true) in
      let is = keyed c.index-item.result there guarding in
      let hit = c.is_of_a_key.ensures.1 (is.0, subst (λ (f : TableDef). Has f.keys c.index-item.result.columns) (sym c.table_def.view_is) is.1) in
      let miss = c.if-not-is_of_a_key.true in
      cc),
)

pub returns : goal.returns
returns c =
    let long : length c.args.schema.now.indexes ≤ c.loop-index.index-index = subst (λ is. length is ≤ c.loop-index.index-index) c.as_slice-index-items.ensures (omega (arith, c.loop-index-test.false)) in
    (λ _. each_has (λ (i : Index). guards i (table_of c.args.table_def.now c.args.tree) ≡ true → (i.order ≡ plain) × Has c.args.table_def.now.keys i.columns) c.args.schema.now.indexes (λ k d low. c.loop-index.invariant k d (omega (arith, long))), λ _. refl)
