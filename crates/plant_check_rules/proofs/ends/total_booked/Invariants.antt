use Rattle.std.proofs.Common.{◌≡◌, ◌*◌, ◌≤◌, take}
use Rattle.plant_base.specs.{greatest_amount}
use Rattle.plant_check_rules.specs.{total_booked}
use Rattle.plant_check_rules.proofs.ends.total_booked.Given as goal

abbrev pub invariant-loop-row : goal.invariant-loop-row
invariant-loop-row l = record {
  sum : l.total ≡ total_booked (take l.row-index l.rows);
  small : l.total ≤ greatest_amount * l.row-index;
}
