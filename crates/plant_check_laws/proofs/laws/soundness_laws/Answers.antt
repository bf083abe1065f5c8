use Rattle.plant_check_laws.proofs.ChecksPassImpliesInvariant.{unbroken_read, unbroken_valid, unbroken_holds}
use Rattle.plant_check_laws.proofs.laws.soundness_laws.Goals as goal

pub returns : goal.returns
returns c = record { read = unbroken_read; valid = unbroken_valid; holds = unbroken_holds }
