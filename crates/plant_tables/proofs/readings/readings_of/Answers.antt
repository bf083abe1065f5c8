use Rattle.std.proofs.Common.{◌≡◌, ◌∙◌, ◌≤◌, List, ap, sym, length, subst, map, take}
use Rattle.std.specs.List.{AllByRecursion}
use Rattle.std.proofs.ByRecursion.{All-take}
use Rattle.std.proofs.lemmas.List.{length-map, take-map}
use Rattle.sql_tables.specs.{TableDef}
use Rattle.plant_tables.specs.declared.readings.Reading.{Reading}
use Rattle.plant_tables.specs.{SelectsAll, desk_table_defs}
use Rattle.plant_tables.proofs.readings.readings_of.Goals as goal

pub split_at-requires : goal.split_at-requires
split_at-requires c =
    let many : length c.args.readings.now ≡ length desk_table_defs = sym (length-map c.args.readings.now (λ reading. reading.table_def)) ∙ ap (λ (fs : List TableDef). length fs) c.requires.table_defs in
    subst (λ n. c.tables_in.result ≤ n) (sym many) c.tables_in.ensures.few

pub returns-clause-table_defs : goal.returns-clause-table_defs
returns-clause-table_defs c =
    ap (λ rs. map (λ (reading : Reading). reading.table_def) rs) c.split_at.ensures.front ∙ sym (take-map (λ (reading : Reading). reading.table_def) c.tables_in.result c.args.readings.now)
    ∙ ap (λ (fs : List TableDef). take c.tables_in.result fs) c.requires.table_defs ∙ c.tables_in.ensures.own

pub returns-clause-texts : goal.returns-clause-texts
returns-clause-texts c = subst (AllByRecursion SelectsAll) (sym c.split_at.ensures.front) (All-take SelectsAll c.tables_in.result c.args.readings.now c.requires.texts)
