use Rattle.std.proofs.Common.{◌∙◌, rules}
use Rattle.std.proofs.lemmas.Iterator.Search.{any_from_yields_List}
use Rattle.std.proofs.lemmas.Iterator.Splits.{YieldsList-from_lines}
use Rattle.plant_base.specs.{same}
use Rattle.plant_answers_pages.proofs.history.names.Goals as goal

pub returns : goal.returns
returns c = any_from_yields_List (same c.args.id) _ _ _ c.any.ensures.ran (YieldsList-from_lines _ (c.lines.ensures.rest ∙ c.said_in.ensures)) (λ x b q k. search rules)
