use Rattle.std.proofs.Common.{map, ap, ◌∙◌, take_all}
use Rattle.serde_json.specs.Data.{array}
use Rattle.serde_json.specs.View.{items_of}
use Rattle.serde_json.proofs.Views.{view-Array}
use Rattle.plant_text_answers.specs.{lifted_item}
use Rattle.plant_text_answers.proofs.further_rows.recalls_with_liftings.Goals as goal

pub returns : goal.returns
returns c =
    view-Array c.loop-recall.list
    ∙ ap (λ ds. array (items_of ds)) (c.loop-recall.invariant ∙ ap (map lifted_item) (take_all c.loop-recall.recall-index c.args.recalls.now c.loop-recall-test.false))
