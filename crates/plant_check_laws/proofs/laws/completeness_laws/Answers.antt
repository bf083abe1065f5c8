use Rattle.plant_check_laws.proofs.InvariantImpliesChecksPass.{valid_unbroken, read_valid}
use Rattle.plant_invariant_tables.proofs.TablesHaveValidValues.{in_order, valid_values}
use Rattle.plant_check_laws.proofs.laws.completeness_laws.Goals as goal

pub returns : goal.returns
returns c = record { in_order = in_order; values = λ schema s known valid. valid_values s valid schema known; unbroken = valid_unbroken; read_again = read_valid }
