use Rattle.plant_trace.proofs.AddingKeepsAcyclic.{into_keeps, new_keeps}
use Rattle.plant_trace.proofs.growth.growth_law.Goals as goal

pub returns : goal.returns
returns c = record { into = into_keeps; new = new_keeps }
