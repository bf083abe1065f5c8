use Rattle.plant_recipe.proofs.RecipeLines.{keeps_procedure}
use Rattle.plant_recipe.proofs.control_recipe.control_law.Goals as goal

pub returns : goal.returns
returns c = keeps_procedure
