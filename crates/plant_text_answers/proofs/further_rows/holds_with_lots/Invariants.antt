use Rattle.std.proofs.Common.{◌≡◌, map, take}
use Rattle.serde_json.specs.View.{view}
use Rattle.plant_text_answers.specs.{all_holds_item}
use Rattle.plant_text_answers.proofs.further_rows.holds_with_lots.Given as goal

abbrev pub invariant-loop-hold : goal.invariant-loop-hold
invariant-loop-hold l = map view l.list.items ≡ map all_holds_item (take l.hold-index l.holds)
