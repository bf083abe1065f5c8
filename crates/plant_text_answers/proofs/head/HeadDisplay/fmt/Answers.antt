use Rattle.std.proofs.Common.{rules}
use Rattle.std.proofs.Output.{has_written_append}
use Rattle.plant_text_answers.proofs.head.HeadDisplay.fmt.Goals as goal

pub returns-clause-writes : goal.returns-clause-writes
returns-clause-writes g c = λ plain ok.
    let one = c.in_ok-writeln.ensures.writes plain (search rules) in
    let two = c.in_ok-writeln-2.ensures.writes one.plain (search rules) in
    let three = c.in_ok-writeln-3.ensures.writes two.plain (search rules) in
    let four = c.in_ok-writeln-4.ensures.writes three.plain (search rules) in
    let five = c.writeln-5.ensures.writes four.plain ok in
    has_written_append _ _ _ _ _ _ one (has_written_append _ _ _ _ _ _ two (has_written_append _ _ _ _ _ _ three (has_written_append _ _ _ _ _ _ four five)))
