use Rattle.std.proofs.Common.{◌≡◌, ◌*◌, ◌≤◌, take}
use Rattle.plant_base.specs.{greatest_amount}
use Rattle.plant_stock.specs.{entered, left}
use Rattle.plant_stock.proofs.stock_of.Given as goal

abbrev pub invariant-loop-movement : goal.invariant-loop-movement
invariant-loop-movement l = record {
  entered : l.entered ≡ entered (take l.movement-index l.movements) l.lot l.number;
  left : l.left ≡ left (take l.movement-index l.movements) l.lot l.number;
  entered_small : l.entered ≤ greatest_amount * l.movement-index;
  left_small : l.left ≤ greatest_amount * l.movement-index;
}
