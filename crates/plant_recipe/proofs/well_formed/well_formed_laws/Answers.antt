use Rattle.plant_recipe.proofs.RecipeLines.{occurs_once, has_phases}
use Rattle.plant_recipe.proofs.well_formed.well_formed_laws.Goals as goal

pub returns : goal.returns
returns c = record { once = occurs_once; phases = has_phases }
