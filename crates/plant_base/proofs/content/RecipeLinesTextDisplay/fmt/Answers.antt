use Rattle.std.proofs.Common.{◌∙◌, sym, ap, take_all, flat_map}
use Rattle.std.proofs.Output.{has_written_of_eq}
use Rattle.plant_base.specs.{lines_text, recipe_line_lines}
use Rattle.plant_base.proofs.LinesRoundTrip.{lines_of_items}
use Rattle.plant_base.proofs.content.RecipeLinesTextDisplay.fmt.Goals as goal

pub returns-clause-writes : goal.returns-clause-writes
returns-clause-writes g c = λ plain ok.
    has_written_of_eq _ _ _ _ _ (ap (flat_map (λ x. lines_text (recipe_line_lines x))) (take_all _ _ c.loop-line-test.false) ∙ sym (lines_of_items recipe_line_lines _)) (c.loop-line.invariant plain)
