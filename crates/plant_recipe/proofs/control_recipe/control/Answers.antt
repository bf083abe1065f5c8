use Rattle.plant_recipe.proofs.RecipeLines.{control_fits}
use Rattle.plant_recipe.proofs.control_recipe.control.Goals as goal

pub scale_lines-requires : goal.scale_lines-requires
scale_lines-requires c = rw (c.header-base.ensures, c.lines.ensures.value) (control_fits c.args.master.now.header c.args.master.now.lines c.args.size c.lines.ensures.formed c.requires)
