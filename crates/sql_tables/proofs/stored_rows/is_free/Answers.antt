use Rattle.std.proofs.Common.{refl, sym, ap, ◌∙◌}
use Rattle.std.proofs.lemmas.Bool.{not-true}
use Rattle.sqlite.specs.Change.{is_used}
use Rattle.sql_tables.specs.{TableDef}
use Rattle.sql_tables.proofs.ListsAgree.{unnamed_as, named_as}
use Rattle.sql_tables.proofs.stored_rows.is_free.Goals as goal

pub returns-then-not-is_taken : goal.returns-then-not-is_taken
returns-then-not-is_taken c =
    let name = ap (λ (f : TableDef). f.name) c.table_def.view_is in (
      λ clear. record {
        unused = ap (is_used c.args.schema.now) (sym name) ∙ (sym c.is_taken.ensures ∙ c.if-not-is_taken.true);
        alone = unnamed_as c.args.schema.now c.args.table_def.now c.table_def.inside.name.now name (sym c.is_parent.ensures ∙ not-true c.is_parent.result clear);
      },
      λ free. rw (c.is_parent.ensures ∙ named_as c.args.schema.now c.args.table_def.now c.table_def.inside.name.now name free.alone) refl,
    )
