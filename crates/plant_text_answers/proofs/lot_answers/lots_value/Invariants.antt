use Rattle.std.proofs.Common.{◌≡◌, map, take}
use Rattle.serde_json.specs.View.{view}
use Rattle.plant_text_answers.specs.{standing_data}
use Rattle.plant_text_answers.proofs.lot_answers.lots_value.Given as goal

abbrev pub invariant-loop-lot : goal.invariant-loop-lot
invariant-loop-lot l = map view l.list.items ≡ map standing_data (take l.lot-index l.lots)
