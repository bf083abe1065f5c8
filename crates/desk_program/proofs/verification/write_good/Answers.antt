use Rattle.std.proofs.Common.{ℕ, ◌∙◌, ap}
use Rattle.desk_program.proofs.OneLinePrinted.{line_is, line_stopped, one_printed, printing_failed}
use Rattle.desk_program.specs.{good_text, IsGoodLine}
use Rattle.desk_program.proofs.verification.write_good.Goals as goal

pub returns-clause-reported : goal.returns-clause-reported
returns-clause-reported g c = λ h s represents.
    let e = c.in_ok-at.ensures.asked h s represents in
    line_is _ _ _ _ _ (c.good_line.ensures ∙ ap (λ (k : ℕ). good_text k c.in_ok-at.at.seq) e.0 ∙ ap (good_text (g.K.Keeper.schema c.args.keeper.now)) e.1) c.print_line.ensures.ok

pub returns-clause-printed : goal.returns-clause-printed
returns-clause-printed g c = one_printed _ IsGoodLine c.good_line.result.bytes _ _ (c.in_ok-at.at.schema, c.in_ok-at.at.seq, c.good_line.ensures)
    c.print_line.ensures.ok c.print_line.ensures.fault c.print_line.ensures.prefix

pub returns-clause-stopped : goal.returns-clause-stopped
returns-clause-stopped g c = λ h s represents.
    let e = c.in_ok-at.ensures.asked h s represents in
    line_stopped _ _ _ _ _ (c.good_line.ensures ∙ ap (λ (k : ℕ). good_text k c.in_ok-at.at.seq) e.0 ∙ ap (good_text (g.K.Keeper.schema c.args.keeper.now)) e.1)
    c.print_line.ensures.fault c.print_line.ensures.prefix

pub returns-clause-fault : goal.returns-clause-fault
returns-clause-fault g c = printing_failed _ c.print_line.ensures.fault
