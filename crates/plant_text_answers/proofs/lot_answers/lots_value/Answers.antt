use Rattle.std.proofs.Common.{map, ap, ◌∙◌, take_all}
use Rattle.serde_json.specs.Data.{array}
use Rattle.serde_json.specs.View.{items_of}
use Rattle.serde_json.proofs.Views.{view-Array}
use Rattle.plant_text_answers.specs.{standing_data}
use Rattle.plant_text_answers.proofs.lot_answers.lots_value.Goals as goal

pub returns : goal.returns
returns c =
    view-Array c.loop-lot.list
    ∙ ap (λ ds. array (items_of ds)) (c.loop-lot.invariant ∙ ap (map standing_data) (take_all c.loop-lot.lot-index c.args.lots.now c.loop-lot-test.false))
