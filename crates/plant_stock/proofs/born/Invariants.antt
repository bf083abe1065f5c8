use Rattle.std.proofs.Common.{◌≡◌, ◌*◌, ◌≤◌, take}
use Rattle.plant_base.specs.{greatest_amount}
use Rattle.plant_stock.specs.{born_of}
use Rattle.plant_stock.proofs.born.Given as goal

abbrev pub invariant-loop-movement : goal.invariant-loop-movement
invariant-loop-movement l = record {
  sum : l.born ≡ born_of (take l.movement-index l.movements) l.lot;
  small : l.born ≤ greatest_amount * l.movement-index;
}
