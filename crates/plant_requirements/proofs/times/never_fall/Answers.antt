use Rattle.std.proofs.Common.{◌∙◌}
use Rattle.plant_requirements.proofs.MomentsRise.{rising}
use Rattle.plant_requirements.proofs.times.never_fall.Goals as goal

pub returns : goal.returns
returns c = c.rises.ensures ∙ rising _ _ c.sort_unstable.ensures.permutation c.sort_unstable.ensures.sorted
