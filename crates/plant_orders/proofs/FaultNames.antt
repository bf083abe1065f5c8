-- The words of an order file's faults.
use Rattle.std.proofs.Common.{◌≤◌, length, arith}
use Rattle.plant_orders.specs.{kind_name}
use Rattle.plant_orders.specs.declared.fault.CsvKind.{CsvKind}
use Rattle.plant_orders.specs.declared.fault.CsvKind.TheVariants as kind

-- each is short
pub name_is_short : (k : CsvKind) → length (kind_name k) ≤ 11
name_is_short kind.TooLong = omega arith
name_is_short _ = omega arith
