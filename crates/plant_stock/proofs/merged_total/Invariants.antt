use Rattle.std.proofs.Common.{◌≡◌, ◌*◌, ◌≤◌, take}
use Rattle.plant_base.specs.{greatest_amount}
use Rattle.plant_stock.specs.{total_of}
use Rattle.plant_stock.proofs.merged_total.Given as goal

abbrev pub invariant-loop-part : goal.invariant-loop-part
invariant-loop-part l = record {
  sum : l.total ≡ total_of (take l.part-index l.parts);
  small : l.total ≤ greatest_amount * l.part-index;
  some : l.part-index ≤ l.total;
}
