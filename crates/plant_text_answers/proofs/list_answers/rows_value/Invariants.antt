use Rattle.std.proofs.Common.{◌≡◌, map, take}
use Rattle.serde_json.specs.View.{view}
use Rattle.plant_text_answers.proofs.list_answers.rows_value.Given as goal

abbrev pub invariant-loop-row : goal.invariant-loop-row
invariant-loop-row g l = map view l.list.items ≡ map g.R.Shown.shows (take l.row-index l.rows)
