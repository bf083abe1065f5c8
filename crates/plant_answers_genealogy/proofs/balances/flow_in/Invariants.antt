use Rattle.std.proofs.Common.{◌≡◌, ◌*◌, ◌≤◌, ◌^◌, take, sum_by}
use Rattle.plant_answers_genealogy.specs.Balances.{moved}
use Rattle.plant_answers_genealogy.proofs.balances.flow_in.Given as goal

abbrev pub invariant-loop-movement : goal.invariant-loop-movement
invariant-loop-movement l = record {
  sum : l.total ≡ sum_by (moved l.flow l.lot) (take l.movement-index l.movements);
  small : l.total ≤ 2 ^ 64 * l.movement-index;
}
