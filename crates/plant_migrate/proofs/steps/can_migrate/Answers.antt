use Rattle.std.proofs.Common.{rules, ◌≡◌, ◌∙◌, ◌≤◌, List, ap, sym, subst, length, drop, true, All, ◌↔◌}
use Rattle.sql_tables.specs.{TableDef, IsFree}
use Rattle.plant_tables.specs.{later_table_defs}
use Rattle.plant_migrate.proofs.LaterNamesFree.{names_taken, names_free}
use Rattle.plant_migrate.proofs.steps.can_migrate.Goals as goal

pub split_at-requires : goal.split_at-requires
split_at-requires c = subst (λ (fs : List TableDef). c.tables_in.result ≤ length fs) (sym c.desk_table_defs-table_defs.ensures) c.tables_in.ensures.few

pub returns-else-all_free : goal.returns-else-all_free
returns-else-all_free c =
    let behind : c.split_at.result.1.now ≡ later_table_defs c.args.version = c.split_at.ensures.back ∙ ap (λ (fs : List TableDef). drop c.tables_in.result fs) c.desk_table_defs-table_defs.ensures ∙ c.tables_in.ensures.later in
    names_taken c.args.schema.now (later_table_defs c.args.version) c.all_free.result (subst (λ fs. (c.all_free.result ≡ true) ↔ All (IsFree c.args.schema.now) fs) behind c.all_free.ensures) (search rules)

pub returns-then-all_free : goal.returns-then-all_free
returns-then-all_free c =
    let behind : c.split_at.result.1.now ≡ later_table_defs c.args.version = c.split_at.ensures.back ∙ ap (λ (fs : List TableDef). drop c.tables_in.result fs) c.desk_table_defs-table_defs.ensures ∙ c.tables_in.ensures.later in
    names_free c.args.schema.now (later_table_defs c.args.version) c.all_free.result c.lacks_counts.result (subst (λ fs. (c.all_free.result ≡ true) ↔ All (IsFree c.args.schema.now) fs) behind c.all_free.ensures) c.lacks_counts.ensures (search rules)
