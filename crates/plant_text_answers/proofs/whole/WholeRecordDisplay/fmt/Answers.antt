use Rattle.std.proofs.Common.{ap, codes, rules}
use Rattle.std.proofs.Output.{has_written_append, has_written_of_eq}
use Rattle.plant_text_answers.specs.{consumed_text, control_text, event_text, produced_text, record_text, section}
use Rattle.plant_text_answers.proofs.whole.WholeRecordDisplay.fmt.Goals as goal

pub returns-clause-writes : goal.returns-clause-writes
unfolding record_text
returns-clause-writes g c = λ plain ok.
    let head = c.in_ok-write.ensures.writes plain (search rules) in
    let lines = has_written_of_eq _ _ _ _ _ (ap (section (codes "CONTROL RECIPE") control_text) c.as_slice.ensures) (c.in_ok-write-2.ensures.writes head.plain (search rules)) in
    let events = has_written_of_eq _ _ _ _ _ (ap (section (codes "EVENTS") event_text) c.as_slice-2.ensures) (c.in_ok-write-3.ensures.writes lines.plain (search rules)) in
    let consumed = has_written_of_eq _ _ _ _ _ (ap (section (codes "CONSUMED") consumed_text) c.as_slice-3.ensures) (c.in_ok-write-4.ensures.writes events.plain (search rules)) in
    let produced = has_written_of_eq _ _ _ _ _ (ap (section (codes "PRODUCED") produced_text) c.as_slice-4.ensures) (c.in_ok-write-5.ensures.writes consumed.plain (search rules)) in
    let totals = c.writeln.ensures.writes produced.plain ok in
    has_written_append _ _ _ _ _ _ head (has_written_append _ _ _ _ _ _ lines (has_written_append _ _ _ _ _ _ events
    (has_written_append _ _ _ _ _ _ consumed (has_written_append _ _ _ _ _ _ produced totals))))
