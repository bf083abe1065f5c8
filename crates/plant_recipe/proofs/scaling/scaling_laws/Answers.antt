use Rattle.plant_recipe.proofs.RecipeLines.{scaled_rises, scaled_at_base}
use Rattle.plant_recipe.proofs.scaling.scaling_laws.Goals as goal

pub returns : goal.returns
returns c = record { rises = scaled_rises; base = scaled_at_base }
