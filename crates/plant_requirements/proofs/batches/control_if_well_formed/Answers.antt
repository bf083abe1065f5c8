use Rattle.std.proofs.Common.{◌≡◌, ◌∙◌, ap, sym, subst, refl, cond, List, Option, None, IfOk}
use Rattle.plant_base.specs.{RecipeLine}
use Rattle.plant_recipe.specs.{WholeRecipe}
use Rattle.plant_requirements.specs.{control_sized, control_if_well_formed}
use Rattle.plant_requirements.proofs.batches.control_if_well_formed.Goals as goal

pub returns-in-Ok : goal.returns-in-Ok
returns-in-Ok c =
    let header = c.args.header in
    let lines = c.args.lines.items in
    let size = c.args.size in
    let formed = c.in-Ok.ensures.valid.0 refl in
    let handed : control_sized c.in-Ok.master.header c.in-Ok.master.lines size ≡ control_sized header lines size = ap (λ (m : WholeRecipe). control_sized m.header m.lines size) c.in-Ok.ensures.value in
    let same : control_sized c.in-Ok.master.header c.in-Ok.master.lines size ≡ control_if_well_formed header lines size = handed ∙ sym (ap (λ b. cond b (control_sized header lines size) None) formed) in
    subst (λ (o : Option (List RecipeLine)). IfOk c.control_of_master.result (λ x. x ≡ o)) same c.control_of_master.ensures
