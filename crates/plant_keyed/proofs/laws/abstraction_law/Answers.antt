use Rattle.plant_keyed.proofs.AbstractionIsState.{abstraction_is_state}
use Rattle.plant_keyed.proofs.laws.abstraction_law.Goals as goal

pub returns : goal.returns
returns c = abstraction_is_state
