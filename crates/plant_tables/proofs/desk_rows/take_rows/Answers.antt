use Rattle.std.proofs.Common.{◌≡◌, ◌∙◌, Some, rules}
use Rattle.std.proofs.lemmas.Result.{IfOk-weaker}
use Rattle.plant_tables_columns.specs.{all_from, booked_from}
use Rattle.plant_tables.specs.{contents_loaded}
use Rattle.plant_tables.proofs.ReadOrderIrrelevant.{with_movements}
use Rattle.plant_tables.proofs.EachTable.{beside_others}
use Rattle.plant_tables.proofs.desk_rows.take_rows.Goals as goal

pub returns : goal.returns
returns c =
    let movements = c.in-Some.rows.items in
    let read : all_from booked_from (contents_loaded c.args.loaded 11) ≡ Some movements = search rules in
    let all = beside_others c.args.loaded c.take_movements.new.loaded movements c.take_movements.ensures.others ∙ with_movements c.args.loaded movements read in
    IfOk-weaker c.rows_with_movements.result _ _ (λ rows beside. beside ∙ all) c.rows_with_movements.ensures
