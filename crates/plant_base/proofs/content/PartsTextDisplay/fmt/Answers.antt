use Rattle.std.proofs.Common.{◌∙◌, sym, ap, take_all, flat_map}
use Rattle.std.proofs.Output.{has_written_of_eq}
use Rattle.plant_base.specs.{lines_text, part_lines}
use Rattle.plant_base.proofs.LinesRoundTrip.{lines_of_items}
use Rattle.plant_base.proofs.content.PartsTextDisplay.fmt.Goals as goal

pub returns-clause-writes : goal.returns-clause-writes
returns-clause-writes g c = λ plain ok.
    has_written_of_eq _ _ _ _ _ (ap (flat_map (λ x. lines_text (part_lines x))) (take_all _ _ c.loop-part-test.false) ∙ sym (lines_of_items part_lines _)) (c.loop-part.invariant plain)
