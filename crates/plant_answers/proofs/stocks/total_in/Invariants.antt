use Rattle.std.proofs.Common.{◌≡◌, ◌*◌, ◌≤◌, ◌^◌, take, sum_by}
use Rattle.plant_answers.specs.Stock.{counted_in}
use Rattle.plant_answers.proofs.stocks.total_in.Given as goal

abbrev pub invariant-loop-lot : goal.invariant-loop-lot
invariant-loop-lot l = record {
  sum : l.total ≡ sum_by (counted_in l.part l.def) (take l.lot-index l.lots);
  small : l.total ≤ 2 ^ 64 * l.lot-index;
}
