use Rattle.std.proofs.Common.{map, ap, ◌∙◌, take_all}
use Rattle.serde_json.specs.Data.{array}
use Rattle.serde_json.specs.View.{items_of}
use Rattle.serde_json.proofs.Views.{view-Array}
use Rattle.plant_text_answers.proofs.list_answers.rows_value.Goals as goal

pub returns : goal.returns
returns g c =
    view-Array c.loop-row.list
    ∙ ap (λ ds. array (items_of ds)) (c.loop-row.invariant ∙ ap (map g.R.Shown.shows) (take_all c.loop-row.row-index c.args.rows.now c.loop-row-test.false))
