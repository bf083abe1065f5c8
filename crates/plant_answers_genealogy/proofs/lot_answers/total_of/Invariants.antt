use Rattle.std.proofs.Common.{◌≡◌, ◌*◌, ◌≤◌, ◌^◌, take, sum_by}
use Rattle.plant_answers_genealogy.proofs.lot_answers.total_of.Given as goal

abbrev pub invariant-loop-r : goal.invariant-loop-r
invariant-loop-r l = record {
  sum : l.total ≡ sum_by (λ r. r.stock) (take l.r-index l.rows);
  small : l.total ≤ 2 ^ 64 * l.r-index;
}
