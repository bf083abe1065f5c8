use Rattle.plant_invariant.proofs.KeptColumns.{columns}
use Rattle.plant_invariant.proofs.StepPreservesInvariant.{opening_is_valid, step_preserves_validity}
use Rattle.plant_invariant.proofs.laws.invariant_law.Goals as goal

pub returns : goal.returns
returns c = record { opening = opening_is_valid; step = step_preserves_validity; columns = columns }
