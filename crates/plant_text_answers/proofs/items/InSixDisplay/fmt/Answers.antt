use Rattle.std.proofs.Common.{ap, ◌∙◌}
use Rattle.std.specs.Fmt.{styled_decimal}
use Rattle.std.proofs.Output.{has_written_of_eq}
use Rattle.plant_text_answers.proofs.PaddedNumbers.{right_in_six}
use Rattle.plant_text_answers.proofs.items.InSixDisplay.fmt.Goals as goal

pub returns-clause-writes : goal.returns-clause-writes
returns-clause-writes g c = λ plain ok.
    has_written_of_eq _ _ _ _ _ (ap (λ s. styled_decimal s c.args.self.now.0) c.laid_out.ensures ∙ right_in_six c.args.self.now.0) (c.write.ensures.writes plain ok)
