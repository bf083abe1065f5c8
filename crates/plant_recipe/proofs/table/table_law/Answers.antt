use Rattle.plant_recipe.proofs.TableIsCases.{whole_table}
use Rattle.plant_recipe.proofs.table.table_law.Goals as goal

pub returns : goal.returns
returns c = whole_table
