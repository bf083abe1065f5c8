use Rattle.plant_recipe.proofs.EventFold.{closing_is_final, stays_in_range, never_falls, goes_along}
use Rattle.plant_recipe.proofs.progress.progress_laws.Goals as goal

pub returns : goal.returns
returns c = record {
  closed = closing_is_final;
  range = stays_in_range;
  attempt = never_falls;
  total = goes_along;
}
