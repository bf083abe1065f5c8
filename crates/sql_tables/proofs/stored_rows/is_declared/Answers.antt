use Rattle.std.proofs.Common.{◌≡◌, Some, slice_get, refl, sym, ap, rules, ◌∙◌, arith}
use Rattle.std.proofs.lemmas.Bool.{not-true}
use Rattle.sqlite.proofs.RunLemmas.{has_got}
use Rattle.sqlite_schema.specs.Names.{table_named}
use Rattle.sql_tables.specs.{TableDef, table_of}
use Rattle.sql_tables.proofs.ListsAgree.{unnamed_as, named_as}
use Rattle.sql_tables.proofs.stored_rows.is_declared.Goals as goal

pub returns : goal.returns
returns c =
    let name = ap (λ (f : TableDef). f.name) c.table_def.view_is in
    let table = c.in-Some-get.table.now in
    let own = c.is_own.ensures.0 c.if-not-is_own.false in
    let got : slice_get c.args.schema.now.tables c.in-Some.at ≡ Some table = search rules in
    let is : table ≡ table_of c.args.table_def.now table.tree = own table (has_got c.args.schema.now.tables c.in-Some.at table got) refl in (
      λ clear. record {
        at = c.in-Some.at;
        tree = table.tree;
        declared = record {
          named = ap (table_named c.args.schema.now) (sym name) ∙ (sym c.table_named.ensures ∙ c.in-Some.is);
          listed = got ∙ ap Some is;
          own = own;
          keyed = c.has_no_other_key.ensures.0 c.if-not-has_no_other_key.false;
          alone = unnamed_as c.args.schema.now c.args.table_def.now c.table_def.inside.name.now name (sym c.is_parent.ensures ∙ not-true c.is_parent.result clear);
        };
        low = omega (arith, c.if-table.false);
      },
      λ held. rw (c.is_parent.ensures ∙ named_as c.args.schema.now c.args.table_def.now c.table_def.inside.name.now name held.declared.alone) refl,
    )
