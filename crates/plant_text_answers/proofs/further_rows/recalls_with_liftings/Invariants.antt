use Rattle.std.proofs.Common.{◌≡◌, map, take}
use Rattle.serde_json.specs.View.{view}
use Rattle.plant_text_answers.specs.{lifted_item}
use Rattle.plant_text_answers.proofs.further_rows.recalls_with_liftings.Given as goal

abbrev pub invariant-loop-recall : goal.invariant-loop-recall
invariant-loop-recall l = map view l.list.items ≡ map lifted_item (take l.recall-index l.recalls)
