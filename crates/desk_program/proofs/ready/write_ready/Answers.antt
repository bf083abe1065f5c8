use Rattle.std.proofs.Common.{◌∙◌, ap}
use Rattle.desk_program.proofs.OneLinePrinted.{line_is, line_stopped, one_printed, printing_failed}
use Rattle.desk_program.specs.{ready_text, IsReady}
use Rattle.desk_program.proofs.ready.write_ready.Goals as goal

pub returns-clause-reported : goal.returns-clause-reported
returns-clause-reported g c = λ h s represents.
    let e = (c.in_ok-at.ensures.asked h s represents).0 in
    line_is _ _ _ _ _ (c.ready_line.ensures ∙ ap ready_text e) c.print_line.ensures.ok

pub returns-clause-printed : goal.returns-clause-printed
returns-clause-printed g c = one_printed _ IsReady c.ready_line.result.bytes _ _ (c.in_ok-at.at.schema, c.ready_line.ensures)
    c.print_line.ensures.ok c.print_line.ensures.fault c.print_line.ensures.prefix

pub returns-clause-stopped : goal.returns-clause-stopped
returns-clause-stopped g c = λ h s represents.
    let e = (c.in_ok-at.ensures.asked h s represents).0 in
    line_stopped _ _ _ _ _ (c.ready_line.ensures ∙ ap ready_text e) c.print_line.ensures.fault c.print_line.ensures.prefix

pub returns-clause-fault : goal.returns-clause-fault
returns-clause-fault g c = printing_failed _ c.print_line.ensures.fault
