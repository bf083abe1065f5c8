use Rattle.std.proofs.Common.{◌≡◌, ◌*◌, ◌≤◌, take, sum_by}
use Rattle.plant_base.specs.{greatest_amount}
use Rattle.plant_answers_genealogy.proofs.bookings.total_of.Given as goal

abbrev pub invariant-loop-movement : goal.invariant-loop-movement
invariant-loop-movement l = record {
  sum : l.total ≡ sum_by (λ m. m.amount) (take l.movement-index l.movements);
  small : l.total ≤ greatest_amount * l.movement-index;
}
