use Rattle.std.proofs.Common.{◌∙◌}
use Rattle.plant_questions.proofs.lot_prefetch.first_of.Goals as goal

pub returns : goal.returns
returns c = c.copied.ensures ∙ c.first.ensures.value
