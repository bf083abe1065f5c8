use Rattle.std.proofs.Common.{map, ap, ◌∙◌, take_all}
use Rattle.serde_json.specs.Data.{array}
use Rattle.serde_json.specs.View.{items_of}
use Rattle.serde_json.proofs.Views.{view-Array}
use Rattle.plant_text_answers.specs.{all_holds_item}
use Rattle.plant_text_answers.proofs.further_rows.holds_with_lots.Goals as goal

pub returns : goal.returns
returns c =
    view-Array c.loop-hold.list
    ∙ ap (λ ds. array (items_of ds)) (c.loop-hold.invariant ∙ ap (map all_holds_item) (take_all c.loop-hold.hold-index c.args.holds.now c.loop-hold-test.false))
