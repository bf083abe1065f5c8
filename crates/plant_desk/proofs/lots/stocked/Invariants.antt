use Rattle.std.proofs.Common.{◌≡◌, take, map}
use Rattle.plant_view.specs.{sublot_row, place_of_row}
use Rattle.plant_desk.specs.{IsStocked}
use Rattle.plant_desk.proofs.lots.stocked.Given as goal

abbrev pub invariant-loop-p : goal.invariant-loop-p
invariant-loop-p l = record {
  rows : map place_of_row l.rows.items ≡ take l.p-index l.places;
  stocks : IsStocked l.movements → l.rows.items ≡ map (sublot_row l.movements) (take l.p-index l.places);
}
